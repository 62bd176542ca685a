use Rattle.std.proofs.Common.{◌≡◌, ◌+◌, drop, arith}
use Rattle.std.proofs.lemmas.List.Sums.{sum_by-append}
use Rattle.drmaa_model.specs.Load.{holds_in, in_array}
use Rattle.plan_book.specs.Blocks.{rows_in}
use Rattle.scheduler_core.proofs.BlockSearches.{sum-more, sum-none}
use Rattle.scheduler_core.proofs.block_sums.members_holding.Goals as goal
use Rattle.scheduler_core.proofs.block_sums.members_holding.Goals.{After-in_array-sum-in-loop-block}

pub loop-block-init : goal.loop-block-init
loop-block-init c = omega (arith, c.in_array-sum.ensures, sum_by-append (holds_in c.args.array) c.args.rows.alone.now (rows_in c.args.rows.blocks.now))

next : (c : After-in_array-sum-in-loop-block) → in_array c.args.array (rows_in (drop c.loop-block.block-index c.args.rows.blocks.now)) ≡ c.in_array-sum-in-loop-block.result + in_array c.args.array (rows_in (drop (c.loop-block.block-index + 1) c.args.rows.blocks.now))
next c =
    let more = sum-more (holds_in c.args.array) c.args.rows.blocks.now c.loop-block.block-index c.block-item.result c.deref.result.now c.loop-block-test.true c.block-item.is c.deref.ensures.value in
    omega (arith, more, c.in_array-sum-in-loop-block.ensures)

pub in_array-sum-requires-in-loop-block : goal.in_array-sum-requires-in-loop-block
in_array-sum-requires-in-loop-block c =
    let more = sum-more (holds_in c.args.array) c.args.rows.blocks.now c.loop-block.block-index c.block-item.result c.deref.result.now c.loop-block-test.true c.block-item.is c.deref.ensures.value in
    omega (arith, more, c.loop-block.invariant, c.requires)

pub overflow_add-sum : goal.overflow_add-sum
overflow_add-sum c = omega (arith, c.loop-block.invariant, c.requires, next (goal.at.overflow_add-sum c).After-in_array-sum-in-loop-block)

pub loop-block-preserved : goal.loop-block-preserved
loop-block-preserved c = omega (arith, c.loop-block.invariant, next (goal.at.loop-block-preserved c).After-in_array-sum-in-loop-block)

pub returns : goal.returns
returns c = omega (arith, c.loop-block.invariant, sum-none (holds_in c.args.array) c.args.rows.blocks.now c.loop-block.block-index (omega (arith, c.loop-block-test.false)))
