use Rattle.recurring_reservations.specs.Occurrences.{AreStarts}
use Rattle.recurring_reservations.proofs.starts.all_starts.Given as goal

-- the starts so far are those of the occurrences so far
abbrev pub invariant-loop-index : goal.invariant-loop-index
invariant-loop-index l = AreStarts l.start l.every l.index l.duration l.starts.items
