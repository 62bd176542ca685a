-- A text of a journal with a script behind it is what its lines spell within the limit that is passed first.
use Rattle.std.proofs.Common.{◌≡◌, ◌↔◌, ℕ, ◌+◌, ◌≤◌, min, nat_le, Bool, true, List, [], ◌∷◌, ◌++◌, length, take, Result, Ok, Err, refl, sym, ap, subst, ◌∙◌, arith, length-append}
use Rattle.std.proofs.Math.Nat.{min-le_left, min-le_right, le-min}
use Rattle.std.specs.Prelude.{IfOk, OnOk, IsTrue}
use Rattle.std.proofs.lemmas.Bool.Decides.{nat_tests}
use Rattle.std.proofs.lemmas.List.{take_all}
use Rattle.std.proofs.lemmas.List.Concat.{flat_map-append}
use Rattle.text_lines.specs.Lines.{whole_lines, ended, AreLines, IsTextOf, IsFirstBad, IsFront}
use Rattle.text_lines.specs.LineLaws.{ended_text, whole_are_lines}
use Rattle.text_lines.specs.LineLaws as lines
use Rattle.text_lines.specs.Automata.{from}
use Rattle.journal_text.specs.Journals as journals
use Rattle.journal_text.specs.JournalLaws.{text_is, text_for}
use Rattle.journal_text.specs.declared.journals.Journal.{Journal}
use Rattle.journal_text.specs.declared.reading.JournalReader.TheVariants as state
use Rattle.continued_text.specs.Texts.{SpellsScript, Spells, IsContinued, byte_limit}
use Rattle.continued_text.specs.Reading.{continuing}
use Rattle.continued_text.specs.SequenceLaws.{reads_continued}
use Rattle.continued_text.specs.LimitLaws.{lines_split, journal_are_lines, limit_behind_journal}
use Rattle.continued_text.specs.declared.texts.Continued.{Continued}
use Rattle.continued_text.specs.declared.reading.ContinuedReader.TheVariants.{InJournal}

both_ended : (ls ms : List (List ℕ)) → ended (ls ++ ms) ≡ ended ls ++ ended ms
both_ended ls ms = flat_map-append (λ l. l ++ 10 ∷ []) ls ms

-- ---- from the parts to the lines

-- a journal's lines, and what stands behind them
record IsJournal (j : Journal) (bytes : List ℕ) : Type 0 where
  lines : List (List ℕ)
  spelled : journals.Spells lines j
  bytes_are : bytes ≡ ended lines

journal_lines : (j : Journal) (bytes : List ℕ) → journals.IsWritable j.config j.entries → journals.IsText j.config j.entries bytes → IsJournal j bytes
journal_lines j bytes w t =
    let h = text_for (length bytes) bytes j w t (omega arith) in
    record { lines = whole_lines bytes; spelled = h.spelled; bytes_are = h.whole }

within_both : (bytes : List ℕ) (js : List (List ℕ)) (j : Journal) (rest : List ℕ) → journals.Spells js j → bytes ≡ ended js ++ rest → length bytes ≤ 268_435_456 → length rest ≤ 16_777_216 → length bytes ≤ byte_limit bytes
within_both bytes js j rest h e whole few =
    let len : length bytes ≡ length (ended js) + length rest = ap length e ∙ length-append (ended js) rest in
    let limit : byte_limit bytes ≡ min 268_435_456 (length (ended js) + 16_777_216) = ap byte_limit e ∙ limit_behind_journal js j rest h in
    let fits : length bytes ≤ length (ended js) + 16_777_216 = omega (arith, len, few) in
    subst (λ n. length bytes ≤ n) (sym limit) (le-min whole fits)

lines_are : (bytes : List ℕ) (c : Continued) → IsContinued bytes c → IsTextOf Spells (byte_limit bytes) bytes c
lines_are bytes c h =
    let j = journal_lines c.journal h.journal_bytes h.writable h.journal in
    let parts : bytes ≡ ended j.lines ++ h.script_bytes = h.parts ∙ ap (λ bs. bs ++ h.script_bytes) j.bytes_are in
    let all : whole_lines bytes ≡ j.lines ++ whole_lines h.script_bytes = ap whole_lines parts ∙ lines_split j.lines h.script_bytes (journal_are_lines j.lines c.journal j.spelled) in
    record {
      within = within_both bytes j.lines c.journal h.script_bytes j.spelled parts h.within h.script.within;
      whole = parts ∙ ap (λ bs. ended j.lines ++ bs) h.script.whole ∙ sym (both_ended j.lines (whole_lines h.script_bytes)) ∙ ap ended (sym all);
      spelled = record { journal_lines = j.lines; script_lines = whole_lines h.script_bytes; parts = all; journal = j.spelled; script = h.script.spelled; same = h.same };
    }

-- ---- from the lines to the parts

first_lines : (ls ms : List (List ℕ)) → AreLines (ls ++ ms) → AreLines ms
first_lines [] ms a = a
first_lines (l ∷ ls) ms a = first_lines ls ms a.1

parts_are : (bytes : List ℕ) (c : Continued) → IsTextOf Spells (byte_limit bytes) bytes c → IsContinued bytes c
parts_are bytes c t =
    let s = t.spelled in
    let parts : bytes ≡ ended s.journal_lines ++ ended s.script_lines = t.whole ∙ ap ended s.parts ∙ both_ended s.journal_lines s.script_lines in
    let len : length bytes ≡ length (ended s.journal_lines) + length (ended s.script_lines) = ap length parts ∙ length-append (ended s.journal_lines) (ended s.script_lines) in
    let limit : byte_limit bytes ≡ min 268_435_456 (length (ended s.journal_lines) + 16_777_216) = ap byte_limit parts ∙ limit_behind_journal s.journal_lines c.journal (ended s.script_lines) s.journal in
    let least : length bytes ≤ min 268_435_456 (length (ended s.journal_lines) + 16_777_216) = subst (λ n. length bytes ≤ n) limit t.within in
    let below = min-le_right 268_435_456 (length (ended s.journal_lines) + 16_777_216) in
    let few : length (ended s.script_lines) ≤ 16_777_216 = omega (arith, len, least, below) in
    let lines : AreLines s.script_lines = first_lines s.journal_lines s.script_lines (subst AreLines s.parts (whole_are_lines bytes)) in
    let first = journal_are_lines s.journal_lines c.journal s.journal in
    let journal = ended_text journals.Spells s.journal_lines c.journal (length (ended s.journal_lines)) first s.journal (omega arith) in
    let above = min-le_left 268_435_456 (length (ended s.journal_lines) + 16_777_216) in
    record {
      journal_bytes = ended s.journal_lines;
      script_bytes = ended s.script_lines;
      parts = parts;
      within = omega (arith, least, above);
      writable = s.journal.writable;
      journal = text_is (length (ended s.journal_lines)) (ended s.journal_lines) c.journal journal;
      script = ended_text SpellsScript s.script_lines c.script 16_777_216 lines s.script few;
      same = s.same;
    }

pub text_lines_are : (bytes : List ℕ) (c : Continued) → IsContinued bytes c ↔ IsTextOf Spells (byte_limit bytes) bytes c
text_lines_are bytes c = (lines_are bytes c, parts_are bytes c)

-- ---- one pair

pub one_text : (ls : List (List ℕ)) (c d : Continued) → Spells ls c → Spells ls d → c ≡ d
one_text ls c d a b = lines.one_text (from continuing (InJournal state.Start)) (reads_continued (InJournal state.Start) refl) ls c d a b

pub one_continued : (bytes : List ℕ) (c d : Continued) → IsContinued bytes c → IsContinued bytes d → c ≡ d
one_continued bytes c d a b = one_text (whole_lines bytes) c d (lines_are bytes c a).spelled (lines_are bytes d b).spelled

pub one_bad_line : (bytes : List ℕ) (n m : ℕ) → IsFirstBad Spells (byte_limit bytes) bytes n → IsFirstBad Spells (byte_limit bytes) bytes m → n ≡ m
one_bad_line bytes n m a b = lines.one_bad Spells (byte_limit bytes) bytes n m a b

-- ---- what is read

front_of_itself : (bytes : List ℕ) (is_all : Bool) → is_all ≡ true → IsFront (length bytes) bytes bytes is_all
front_of_itself bytes is_all e = record { first = sym (take_all (length bytes) bytes (omega arith)); whole = e ∙ same_test (length bytes) }
  where
    same_test : (n : ℕ) → true ≡ nat_le n n
    same_test n = grind (arith, nat_tests)

-- an answer is one for the bytes that were read
pub spelled_so : {E : Type 0} (first : List ℕ) (is_all : Bool) (r : Result Continued E) → OnOk r (IsTrue is_all)
    → ((limit : ℕ) (all : List ℕ) → IsFront limit all first is_all → IfOk r (IsTextOf Spells limit all)) → IfOk r (λ c. Spells (whole_lines first) c)
spelled_so first is_all (Ok c) h f = (f (length first) first (front_of_itself first is_all h)).spelled
spelled_so first is_all (Err e) h f = tt

pub if_ok : {A E : Type 0} (P Q : A → Type 0) (r : Result A E) → ((x : A) → P x → Q x) → IfOk r P → IfOk r Q
if_ok P Q (Ok x) f h = f x h
if_ok P Q (Err e) f h = tt

-- bytes are their own first ones
pub whole_front : (bytes front : List ℕ) (is_all : Bool) → front ≡ take 268_435_456 bytes → is_all ≡ nat_le (length bytes) 268_435_456 → IsFront 268_435_456 bytes front is_all
whole_front bytes front is_all e w = record { first = e; whole = w }
