use Rattle.std.proofs.Common.{◌≡◌, length, take}
use Rattle.plan_book.specs.Blocks.{rows_in}
use Rattle.plan_book.proofs.block_walks.count_in.Given as goal

abbrev pub invariant-loop-block : goal.invariant-loop-block
invariant-loop-block l = l.count ≡ length (rows_in (take l.block-index l.blocks))
