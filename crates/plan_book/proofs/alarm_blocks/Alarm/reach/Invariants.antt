use Rattle.std.proofs.Common.{◌≡◌, length}
use Rattle.drmaa_model.specs.Plan.{Plan}
use Rattle.plan_book.specs.Quiet.{IsQuiet}
use Rattle.plan_book.proofs.alarm_blocks.Alarm.reach.Given as goal

abbrev pub invariant-loop : goal.invariant-loop
invariant-loop l = record {
  len : length l.self.ends.items ≡ l.counter;
  quiet : (p : Plan) → IsQuiet l.fn.self p → IsQuiet l.self p;
}
