use Rattle.std.proofs.Common.{◌-◌, ◌^◌}
use Rattle.revival.specs.Stopping.{IsStopping}
use Rattle.revival.proofs.ends.end_started.Given as goal

-- the started jobs below the number have ended
abbrev pub invariant-jobs : goal.invariant-jobs
invariant-jobs l = record {
  stopping : IsStopping l.from.0 l.initial.machine.ledger l.machine.ledger;
}

abbrev pub decreases-jobs : goal.decreases-jobs
decreases-jobs l = 2 ^ 64 - l.from.0
