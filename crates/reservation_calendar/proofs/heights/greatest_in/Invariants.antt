use Rattle.std.proofs.Common.{ℕ, ◌≤◌}
use Rattle.reservation_calendar.specs.Heights.{IsLow}
use Rattle.reservation_calendar.proofs.Crossing.{LowUntil}
use Rattle.reservation_calendar.proofs.heights.greatest_in.Given as goal

abbrev pub invariant-loop-k : goal.invariant-loop-k
invariant-loop-k l = record {
  high : LowUntil l.steps l.greatest l.fn.from l.k;
  least : (most : ℕ) → IsLow l.steps most l.fn.from l.until → l.greatest ≤ most;
}
