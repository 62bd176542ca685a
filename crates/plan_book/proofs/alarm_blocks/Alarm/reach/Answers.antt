use Rattle.std.proofs.Common.{arith}
use Rattle.plan_book.proofs.alarm_blocks.Alarm.reach.Goals as goal

pub returns-in_err-add_block-clause-quiet : goal.returns-in_err-add_block-clause-quiet
returns-in_err-add_block-clause-quiet c = λ p quiet. c.add_block.ensures.quiet p (c.loop.invariant.quiet p quiet)

pub loop-preserved : goal.loop-preserved
loop-preserved c = record {
  len = omega (arith, (c.in_ok-add_block.ensures {u = tt}).ok, c.loop.invariant.len);
  quiet = λ p quiet. c.add_block.ensures.quiet p (c.loop.invariant.quiet p quiet);
}
