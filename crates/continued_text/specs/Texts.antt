-- The text of a journal, and behind it a serial script of the same machine and queues: our profile.
use Rattle.std.specs.Prelude.{◌≡◌, ℕ, ◌+◌, ◌≤◌, min, Bool, List, [], ◌∷◌, ◌++◌, length, Option, Some, None, is_some, codes, option_map, if◌then◌else◌}
use Rattle.text_codec.specs.Formats.{strip}
use Rattle.text_lines.specs.Lines.{whole_lines, IsTextOf}
use Rattle.text_lines.specs.Skipping.{SpellsUnskipped}
use Rattle.journal_text.specs.Journals as journals
use Rattle.script_text.specs.Scripts as scripts
use Rattle.script_text.specs.declared.scripts.Mode.TheVariants.{Serial}
use Rattle.script_text.specs.declared.scripts.Script.{Script}
use Rattle.continued_text.specs.declared.texts.Continued.{Continued}

-- the lines of a serial script; empty ones and comments are skipped
abbrev pub SpellsScript : List (List ℕ) → Script → Type 0
SpellsScript = SpellsUnskipped (scripts.Spells Serial)

-- some lines are this script's, which is a serial one
abbrev pub IsSerial : Script → Type 0
IsSerial script = (lines : List (List ℕ)) × scripts.Spells Serial lines script

-- The lines are a journal's, and behind them a serial script's of the same machine and queues.
pub record Spells (lines : List (List ℕ)) (c : Continued) : Type 0 where
  pub journal_lines : List (List ℕ)
  pub script_lines : List (List ℕ)
  pub parts : lines ≡ journal_lines ++ script_lines
  pub journal : journals.Spells journal_lines c.journal
  pub script : SpellsScript script_lines c.script
  pub same : c.script.config ≡ c.journal.config

-- The bytes, at most 268,435,456, are a text of the journal, of either version, and behind it at most 16,777,216 that are a text of
-- the script, which has the machine and the queues of the journal.
pub record IsContinued (bytes : List ℕ) (c : Continued) : Type 0 where
  pub journal_bytes : List ℕ
  pub script_bytes : List ℕ
  pub parts : bytes ≡ journal_bytes ++ script_bytes
  pub within : length bytes ≤ 268_435_456
  pub writable : journals.IsWritable c.journal.config c.journal.entries
  pub journal : journals.IsText c.journal.config c.journal.entries journal_bytes
  pub script : IsTextOf SpellsScript 16_777_216 script_bytes c.script
  pub same : c.script.config ≡ c.journal.config

-- a line that ends a journal, behind its first line and its entries
abbrev pub is_last : List ℕ → Bool
is_last line = is_some (strip (codes "end ") line)

-- how many bytes there are through the first line that ends a journal
abbrev pub end_of : List (List ℕ) → Option ℕ
end_of [] = None
end_of (l ∷ ls) = if is_last l then Some (length l + 1) else option_map (λ n. length l + 1 + n) (end_of ls)

-- the limit behind a journal of so many bytes: of that of the whole and that of the script the one that is passed first
abbrev pub limit_behind : Option ℕ → ℕ
limit_behind None = 268_435_456
limit_behind (Some n) = min 268_435_456 (n + 16_777_216)

-- how many bytes a text may have that begins as these do
unfoldable pub byte_limit : List ℕ → ℕ
byte_limit bytes = limit_behind (end_of (whole_lines bytes))
