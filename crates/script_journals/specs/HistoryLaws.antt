-- The journal of a legal history whose calls may stand may be printed, and read again.
use Rattle.std.proofs.Common.{◌≡◌, ℕ, ◌==◌, Bool, true, false, cond, inl, inr, List, [], ◌∷◌, take, refl, sym, ap, subst, ◌∙◌, arith}
use Rattle.std.specs.List.{AllByRecursion}
use Rattle.std.proofs.lemmas.Bool.Decides.{nat_tests}
use Rattle.drmaa_model.specs.declared.calls.Call.{Call}
use Rattle.drmaa_model.specs.declared.calls.Call.TheVariants as call
use Rattle.drmaa_model.specs.declared.entries.Entry.{Entry}
use Rattle.drmaa_model.specs.History.{after_entry, IsLegalFrom, IsLegal}
use Rattle.drmaa_model.specs.RecordedCalls.{recorded}
use Rattle.drmaa_model.specs.World.{World, opening_world}
use Rattle.journal_forms.specs.Calls.{has_others}
use Rattle.journal_text.specs.Printing.{MayStand, IsPrintable}
use Rattle.script_lines.specs.declared.lines.Line.{Line}
use Rattle.script_text.specs.declared.scripts.Mode.{Mode}
use Rattle.script_text.specs.declared.scripts.Script.{Script}
use Rattle.script_text.specs.Scripts.{Spells}
use Rattle.script_asks.specs.declared.given.Given.{Given}
use Rattle.script_asks.specs.Plays.{calls_of, no_attempt, IsAsked, Plays, PlaysPart}
use Rattle.script_asks.specs.Replies.{names_after}
use Rattle.script_journals.specs.AnsweredLaws.{answer-stands}
use Rattle.script_journals.specs.AskedLaws.{HasOthers, asks-holds}
use Rattle.script_journals.specs.Calls.{CallMayStand, is_attendants}
use Rattle.script_journals.specs.RecordedLaws.{recorded-twice, recorded-others}
use Rattle.script_journals.specs.PlayedLaws.{spelled-printable, spelled-others}

-- ---- what blocks ask

asked-stands : (s : Script) (names : List (List ℕ × Given)) (before : ℕ) (l : Line) (e : Entry) → HasOthers s → IsAsked s names before l e → CallMayStand e
asked-stands s names before l e has is = record {
  call = ap recorded is.same ∙ recorded-twice is.call ∙ sym is.same;
  others = ap has_others is.same ∙ recorded-others is.call ∙ asks-holds s names no_attempt is.begun l has is.call is.asked;
}

plays-stands : (s : Script) (names : List (List ℕ × Given)) (before : ℕ) (ls : List Line) (es : List Entry) → HasOthers s → Plays s names before ls es → AllByRecursion CallMayStand es
plays-stands s names before [] es has is = subst (AllByRecursion CallMayStand) (sym is) tt
plays-stands s names before (l ∷ ls) es has (inl (nothing, rest)) = plays-stands s names before ls es has rest
plays-stands s names before (l ∷ ls) es has (inr (e, rest, same, asked, more)) =
    subst (AllByRecursion CallMayStand) (sym same) (asked-stands s names before l e has asked, plays-stands s (names_after l e.reply names) e.at ls rest has more)

-- What the lines of a block ask may stand in a journal.
pub block-stands : (mode : Mode) (lines : List (List ℕ)) (s : Script) (names : List (List ℕ × Given)) (before : ℕ) (block : List Line) (es : List Entry) → Spells mode lines s → Plays s names before block es → AllByRecursion CallMayStand es
block-stands mode lines s names before block es is plays = plays-stands s names before block es (spelled-others mode lines s is) plays

-- So may what its first lines ask.
pub part-stands : (mode : Mode) (lines : List (List ℕ)) (s : Script) (names : List (List ℕ × Given)) (before : ℕ) (block : List Line) (es : List Entry) → Spells mode lines s → PlaysPart s names before block es → AllByRecursion CallMayStand es
part-stands mode lines s names before block es is (n, plays) = block-stands mode lines s names before (take n block) es is plays

-- ---- what the launcher and the reaper ask

same-recorded : (c : Call) → is_attendants c ≡ true → recorded c ≡ c
same-recorded (call.RunJob session t) is = absurd (cc)
same-recorded (call.RunBulk session t indices) is = absurd (cc)
same-recorded _ is = refl

no-others : (c : Call) → is_attendants c ≡ true → has_others c ≡ true
no-others (call.RunJob session t) is = absurd (cc)
no-others (call.RunBulk session t indices) is = absurd (cc)
no-others (call.RequestReservation session t) is = absurd (cc)
no-others _ is = refl

pub attendants-stand : (e : Entry) → is_attendants e.call ≡ true → CallMayStand e
attendants-stand e is = record { call = same-recorded e.call is; others = no-others e.call is }

-- ---- all callers

same_number : (n : ℕ) → (n == n) ≡ true
same_number n = grind (arith, nat_tests)

in_front : (P : Entry → Type 0) (b : Bool) (e : Entry) (es : List Entry) → b ≡ true → AllByRecursion P (cond b (e ∷ es) es) → P e
in_front P true e es is all = all.0
in_front P false e es is all = absurd (cc)

further_on : (P : Entry → Type 0) (b : Bool) (e : Entry) (es : List Entry) → AllByRecursion P (cond b (e ∷ es) es) → AllByRecursion P es
further_on P true e es all = all.1
further_on P false e es all = all

-- What is true of each caller's entries is true of all.
pub every_caller : (P : Entry → Type 0) (es : List Entry) → ((caller : ℕ) → AllByRecursion P (calls_of caller es)) → AllByRecursion P es
every_caller P [] each = tt
every_caller P (e ∷ es) each = (
  in_front P (e.caller.0 == e.caller.0) e (calls_of e.caller.0 es) (same_number e.caller.0) (each e.caller.0),
  every_caller P es (λ caller. further_on P (e.caller.0 == caller) e (calls_of caller es) (each caller)),
)

-- ---- legal histories

each-stands : (w : World) (es : List Entry) → AllByRecursion CallMayStand es → IsLegalFrom w es → AllByRecursion MayStand es
each-stands w [] calls legal = tt
each-stands w (e ∷ es) calls legal = (
  record {
    call = calls.0.call;
    others = calls.0.others;
    reply = answer-stands w e.at e.call e.reply (after_entry w e) legal.0.answered;
  },
  each-stands (after_entry w e) es calls.1 legal.1,
)

pub history-printable : (mode : Mode) (lines : List (List ℕ)) (s : Script) (history : List Entry) → Spells mode lines s → AllByRecursion CallMayStand history → IsLegal s.config history → IsPrintable s.config history
history-printable mode lines s history is calls legal = spelled-printable mode lines s history is (each-stands (opening_world s.config) history calls legal)
