use Rattle.std.proofs.Common.{◌≡◌, ℕ, get_or, length}
use Rattle.drmaa_types.specs.declared.moments.End.TheVariants.{Never}
use Rattle.plan_book.specs.Quiet.{IsOutside}
use Rattle.plan_book.proofs.alarm_blocks.Alarm.open.Given as goal

abbrev pub invariant-loop-block : goal.invariant-loop-block
invariant-loop-block l = record {
  outside : (k : ℕ) → IsOutside l.fn.blocks k → get_or l.self.ends.items k Never ≡ get_or l.fn.self.ends.items k Never;
  len : length l.self.ends.items ≡ length l.fn.self.ends.items;
  lasting : l.self.lasting ≡ l.fn.self.lasting;
}
