use Rattle.std.proofs.Common.{take}
use Rattle.plan_book.specs.Blocks.{rows_in}
use Rattle.plan_book.specs.Sums.{AreSums}
use Rattle.plan_book.proofs.block_walks.sums_in.Given as goal

abbrev pub invariant-loop-block : goal.invariant-loop-block
invariant-loop-block l = AreSums (rows_in (take l.block-index l.blocks)) l.sums
