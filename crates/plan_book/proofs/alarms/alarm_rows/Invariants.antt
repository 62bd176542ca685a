use Rattle.std.proofs.Common.{◌≡◌, take, length}
use Rattle.std.specs.List.{AllByRecursion}
use Rattle.drmaa_model.specs.Plan.{Plan}
use Rattle.plan_book.specs.Quiet.{IsAlarmed, IsQuiet}
use Rattle.plan_book.proofs.alarms.alarm_rows.Given as goal

abbrev pub invariant-loop-row : goal.invariant-loop-row
invariant-loop-row l = record {
  rows : AllByRecursion (IsAlarmed l.alarm.ends.items l.rs.items) (take l.row-index l.row-items);
  quiet : (p : Plan) → IsQuiet l.fn.alarm p → IsQuiet l.alarm p;
  blocks : length l.alarm.ends.items ≡ length l.fn.alarm.ends.items;
}
