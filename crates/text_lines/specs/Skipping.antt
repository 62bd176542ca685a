-- Lines that are skipped: from a reader of the others to one of all.
use Rattle.std.specs.Prelude.{◌≡◌, true, List, ℕ, Option, Some, None, IsUtf8, if◌then◌else◌}
use Rattle.std.specs.List.{AllByRecursion}
use Rattle.std.specs.Str.{is_utf8}
use Rattle.text_lines.specs.Lines.{is_skipped, unskipped_lines}
use Rattle.text_lines.specs.Automata.{Stepping}
use Rattle.text_lines.specs.declared.skipping.Skipping.{Skipping}

-- of a line that is skipped only this is asked
abbrev pub IsReadable : List ℕ → Type 0
IsReadable line = is_skipped line ≡ true → IsUtf8 line

-- the lines that are not skipped spell the text
pub record SpellsUnskipped {Q : Type 0} (Spells : List (List ℕ) → Q → Type 0) (lines : List (List ℕ)) (q : Q) : Type 0 where
  pub readable : AllByRecursion IsReadable lines
  pub spelled : Spells (unskipped_lines lines) q

-- a reader around another
abbrev pub around : {S : Type 0} → Option S → Option (Skipping S)
around None = None
around (Some s) = Some (record { reader = s })

-- the same reader, which stays where it is at a line that is skipped
abbrev pub skipping : {S Q : Type 0} → Stepping S Q → Stepping (Skipping S) Q
skipping A = record {
  is_first = λ s. A.is_first s.reader;
  next = λ s l. if is_skipped l then (if is_utf8 l then Some s else None) else around (A.next s.reader l);
  ends = λ s. A.ends s.reader;
  Spells = λ s. SpellsUnskipped (A.Spells s.reader);
}
