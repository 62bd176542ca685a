-- No client's block of a script for threads registers a callback: the lines that do stand in the setup block.
use Rattle.std.proofs.Common.{◌≡◌, ℕ, ◌&&◌, ◌||◌, not, false, List, [], ◌∷◌, take, Some, refl, ap, ◌∙◌}
use Rattle.std.specs.List.{AllByRecursion, slice_get}
use Rattle.drmaa_model.specs.declared.calls.Call.{Call}
use Rattle.drmaa_model.specs.declared.calls.Call.TheVariants as call
use Rattle.drmaa_model.specs.declared.entries.Entry.{Entry}
use Rattle.drmaa_model.specs.RecordedCalls.{recorded}
use Rattle.text_codec.specs.StepLaws.{both}
use Rattle.script_lines.specs.declared.lines.Line.{Line}
use Rattle.script_text.specs.declared.scripts.Mode.TheVariants as mode
use Rattle.script_text.specs.declared.scripts.Script.{Script}
use Rattle.script_text.specs.Follows.{is_wait, is_serial_line, is_register}
use Rattle.script_text.specs.Scripts.{Spells}
use Rattle.script_asks.specs.declared.given.Given.{Given}
use Rattle.script_asks.specs.Plays.{no_attempt, IsAsked, Plays, PlaysPart}
use Rattle.script_journals.specs.AskedLaws.{asks-own}
use Rattle.script_journals.specs.Calls.{is_registers, IsNoRegister}
use Rattle.script_journals.specs.ClientLaws.{AllBelong, spelled-belongs, is_not, item-all, first-all, plays-each}

-- a line that registers no callback
abbrev IsAside : Line → Type 0
IsAside l = is_register l ≡ false

none-registers : (ls : List Line) → AllBelong mode.Threads false ls → AllByRecursion IsAside ls
unfolding AllBelong
none-registers [] all = tt
none-registers (l ∷ ls) all =
    (is_not (is_register l) (both (not (false && is_wait l) && not (is_serial_line l)) (false || not (is_register l)) all.0).1, none-registers ls all.1)

block-aside : (lines : List (List ℕ)) (s : Script) (n : ℕ) (block : List Line) → Spells mode.Threads lines s → slice_get s.clients n ≡ Some block → AllByRecursion IsAside block
block-aside lines s n block is of = none-registers block (item-all (AllBelong mode.Threads false) s.clients n block (spelled-belongs mode.Threads lines s is).clients of)

-- what is asked is kept as such
recorded-registers : (c : Call) → is_registers (recorded c) ≡ is_registers c
recorded-registers call.Register = refl
recorded-registers _ = refl

-- what a line asks that registers no callback
pub asked-no-register : (s : Script) (names : List (List ℕ × Given)) (before : ℕ) (l : Line) (e : Entry) → is_register l ≡ false → IsAsked s names before l e → IsNoRegister e
asked-no-register s names before l e other is = ap is_registers is.same ∙ recorded-registers is.call ∙ (asks-own s names no_attempt is.begun l is.call is.asked).1 ∙ other

pub block-none : (lines : List (List ℕ)) (s : Script) (names : List (List ℕ × Given)) (before n : ℕ) (block : List Line) (es : List Entry)
    → Spells mode.Threads lines s → slice_get s.clients n ≡ Some block → Plays s names before block es → AllByRecursion IsNoRegister es
block-none lines s names before n block es is of plays = plays-each IsAside IsNoRegister s (asked-no-register s) names before block es (block-aside lines s n block is of) plays

pub part-none : (lines : List (List ℕ)) (s : Script) (names : List (List ℕ × Given)) (before n : ℕ) (block : List Line) (es : List Entry)
    → Spells mode.Threads lines s → slice_get s.clients n ≡ Some block → PlaysPart s names before block es → AllByRecursion IsNoRegister es
part-none lines s names before n block es is of (k, plays) =
    plays-each IsAside IsNoRegister s (asked-no-register s) names before (take k block) es (first-all IsAside k block (block-aside lines s n block is of)) plays
