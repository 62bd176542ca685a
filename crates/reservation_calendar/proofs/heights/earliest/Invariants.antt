use Rattle.reservation_calendar.proofs.Runs.{Run}
use Rattle.reservation_calendar.proofs.heights.earliest.Given as goal

abbrev pub invariant-loop-k : goal.invariant-loop-k
invariant-loop-k l = Run l.steps l.most l.fn.from l.until l.span l.k l.start
