use Rattle.std.proofs.Common.{take}
use Rattle.plan_book.specs.Blocks.{rows_in}
use Rattle.plan_book.specs.Open.{IsPriorityBound}
use Rattle.plan_book.proofs.block_walks.greatest_under.Given as goal

abbrev pub invariant-loop-block : goal.invariant-loop-block
invariant-loop-block l = IsPriorityBound (rows_in (take l.block-index l.blocks)) l.greatest
