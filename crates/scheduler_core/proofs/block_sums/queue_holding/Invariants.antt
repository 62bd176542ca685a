use Rattle.std.proofs.Common.{◌≡◌, ◌+◌, drop}
use Rattle.drmaa_model.specs.Load.{in_queue}
use Rattle.plan_book.specs.Blocks.{rows_in}
use Rattle.scheduler_core.proofs.block_sums.queue_holding.Given as goal

-- the sum so far and that of the rest
abbrev pub invariant-loop-block : goal.invariant-loop-block
invariant-loop-block l = l.sum + in_queue l.place (rows_in (drop l.block-index l.blocks)) ≡ in_queue l.place (rows_in l.blocks)
