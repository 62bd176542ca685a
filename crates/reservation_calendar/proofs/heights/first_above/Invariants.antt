use Rattle.reservation_calendar.proofs.Crossing.{LowUntil}
use Rattle.reservation_calendar.proofs.heights.first_above.Given as goal

abbrev pub invariant-loop-k : goal.invariant-loop-k
invariant-loop-k l = LowUntil l.steps l.most l.fn.from l.k
