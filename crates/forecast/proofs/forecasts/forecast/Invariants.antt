use Rattle.std.proofs.Common.{◌-◌}
use Rattle.drmaa_types.specs.Moments.{greatest}
use Rattle.forecast.specs.Runs.{IsFresh}
use Rattle.forecast.proofs.forecasts.forecast.Given as goal

-- nothing was done yet at the moment
abbrev pub invariant-moments : goal.invariant-moments
invariant-moments l = record {
  fresh : IsFresh l.at l.fn.machine.ledger l.machine.ledger l.starts.items;
}

abbrev pub decreases-moments : goal.decreases-moments
decreases-moments l = greatest - l.at
