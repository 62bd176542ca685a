use Rattle.std.proofs.Common.{◌≡◌, ◌+◌, drop}
use Rattle.plan_book.specs.Blocks.{rows_in}
use Rattle.wait_reasons.specs.Sums.{sum_of}
use Rattle.wait_reasons.proofs.sums.sum_in.Given as goal

-- the sum so far and that of the rest
abbrev pub invariant-loop-block : goal.invariant-loop-block
invariant-loop-block l = l.sum + sum_of l.share (rows_in (drop l.block-index l.blocks)) ≡ sum_of l.share (rows_in l.blocks)
