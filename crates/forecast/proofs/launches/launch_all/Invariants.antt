use Rattle.std.proofs.Common.{◌-◌, length}
use Rattle.drmaa_model.specs.History.{Ledger}
use Rattle.forecast.specs.Runs.{IsEnded}
use Rattle.forecast.proofs.launches.launch_all.Given as goal

-- no job is left that is to end, and the starts are told
abbrev pub invariant-launches : goal.invariant-launches
invariant-launches l = record {
  ended : (first : Ledger) → IsEnded l.at first l.initial.machine.ledger l.initial.starts.items → IsEnded l.at first l.machine.ledger l.starts.items;
}

abbrev pub decreases-launches : goal.decreases-launches
decreases-launches l = 4_000_000 - length l.machine.ledger.history
