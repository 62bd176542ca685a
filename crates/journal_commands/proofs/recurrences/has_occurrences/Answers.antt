use Rattle.std.proofs.Common.{Bool, sym, subst}
use Rattle.std.specs.Prelude.{MatchBool}
use Rattle.journal_commands.specs.Recurring.{HasOccurrences}
use Rattle.journal_commands.proofs.Going.{none_occur}
use Rattle.std.proofs.lemmas.Result.{IfOk-weaker}
use Rattle.journal_commands.proofs.recurrences.has_occurrences.Goals as goal

pub returns : goal.returns
returns c =
    let words = c.args.words.now in
    IfOk-weaker c.unless_short.result _ (λ (can : Bool). MatchBool can (HasOccurrences words) (HasOccurrences words → ⊥)) (λ can is.
    subst (λ (b : Bool). MatchBool b (HasOccurrences words) (HasOccurrences words → ⊥)) (sym is.0)
    (λ has. none_occur words c.recurring_of-recurring.result c.in-Err.refusal c.recurring_of-recurring.ensures is.1 c.in-Err.ensures.err has)) c.unless_short.ensures
