use Rattle.std.proofs.Common.{length}
use Rattle.run_views.proofs.Pairings.{IsPaired}
use Rattle.run_views.proofs.pairing.paired.Given as goal

-- the events behind those that are left are gone through
abbrev pub invariant-events : goal.invariant-events
invariant-events l = record {
  paired : IsPaired l.fn.events.items l.events.items l.runs.items l.ends;
}

abbrev pub decreases-events : goal.decreases-events
decreases-events l = length l.events.items
