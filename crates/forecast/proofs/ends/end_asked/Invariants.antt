use Rattle.std.proofs.Common.{◌-◌, ◌^◌, List}
use Rattle.drmaa_model.specs.History.{Ledger}
use Rattle.forecast.specs.Runs.{IsFresh, IsEnding}
use Rattle.forecast.specs.declared.predictions.Predicted.{Predicted}
use Rattle.forecast.proofs.ends.end_asked.Given as goal

-- the jobs below the number that were to end have ended
abbrev pub invariant-jobs : goal.invariant-jobs
invariant-jobs l = record {
  ends : (first : Ledger) (foretold : List Predicted) → IsFresh l.at first l.initial.machine.ledger foretold → IsEnding l.at l.from.0 first l.machine.ledger foretold;
}

abbrev pub decreases-jobs : goal.decreases-jobs
decreases-jobs l = 2 ^ 64 - l.from.0
