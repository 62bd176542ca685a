use Rattle.std.proofs.Common.{◌≡◌, take}
use Rattle.scheduler_core.specs.Afters.{first_bound}
use Rattle.scheduler_core.proofs.events.next_bound.Given as goal

abbrev pub invariant-loop-reservation : goal.invariant-loop-reservation
invariant-loop-reservation l = l.best ≡ first_bound l.after (take l.reservation-index l.reservation-items)
