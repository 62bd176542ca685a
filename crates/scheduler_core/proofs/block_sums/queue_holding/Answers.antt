use Rattle.std.proofs.Common.{◌≡◌, ◌+◌, drop, arith}
use Rattle.drmaa_model.specs.Load.{held_in_queue, in_queue}
use Rattle.plan_book.specs.Blocks.{rows_in}
use Rattle.scheduler_core.proofs.BlockSearches.{sum-more, sum-none}
use Rattle.scheduler_core.proofs.block_sums.queue_holding.Goals as goal
use Rattle.scheduler_core.proofs.block_sums.queue_holding.Goals.{After-in_queue-sum}

next : (c : After-in_queue-sum) → in_queue c.args.place (rows_in (drop c.loop-block.block-index c.args.blocks.now)) ≡ c.in_queue-sum.result + in_queue c.args.place (rows_in (drop (c.loop-block.block-index + 1) c.args.blocks.now))
next c =
    let more = sum-more (held_in_queue c.args.place) c.args.blocks.now c.loop-block.block-index c.block-item.result c.deref.result.now c.loop-block-test.true c.block-item.is c.deref.ensures.value in
    omega (arith, more, c.in_queue-sum.ensures)

pub in_queue-sum-requires : goal.in_queue-sum-requires
in_queue-sum-requires c =
    let more = sum-more (held_in_queue c.args.place) c.args.blocks.now c.loop-block.block-index c.block-item.result c.deref.result.now c.loop-block-test.true c.block-item.is c.deref.ensures.value in
    omega (arith, more, c.loop-block.invariant, c.requires)

pub overflow_add-sum : goal.overflow_add-sum
overflow_add-sum c = omega (arith, c.loop-block.invariant, c.requires, next (goal.at.overflow_add-sum c).After-in_queue-sum)

pub loop-block-preserved : goal.loop-block-preserved
loop-block-preserved c = omega (arith, c.loop-block.invariant, next (goal.at.loop-block-preserved c).After-in_queue-sum)

pub returns : goal.returns
returns c = omega (arith, c.loop-block.invariant, sum-none (held_in_queue c.args.place) c.args.blocks.now c.loop-block.block-index (omega (arith, c.loop-block-test.false)))
