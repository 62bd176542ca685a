use Rattle.std.proofs.Common.{◌≡◌, ◌+◌, drop}
use Rattle.drmaa_model.specs.Load.{in_reservation}
use Rattle.plan_book.specs.Blocks.{rows_in}
use Rattle.scheduler_core.proofs.block_sums.reservation_holding.Given as goal

-- the sum so far and that of the rest
abbrev pub invariant-loop-block : goal.invariant-loop-block
invariant-loop-block l = l.sum + in_reservation l.number (rows_in (drop l.block-index l.blocks)) ≡ in_reservation l.number (rows_in l.blocks)
