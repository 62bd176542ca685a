use Rattle.std.proofs.Common.{◌≡◌, ◌+◌, drop}
use Rattle.drmaa_model.specs.Load.{in_array}
use Rattle.plan_book.specs.Blocks.{rows_in}
use Rattle.plan_book.specs.Meant.{rows_of}
use Rattle.scheduler_core.proofs.block_sums.members_holding.Given as goal

-- the sum so far and that of the rest
abbrev pub invariant-loop-block : goal.invariant-loop-block
invariant-loop-block l = l.sum + in_array l.array (rows_in (drop l.block-index l.block-items)) ≡ in_array l.array (rows_of l.rows)
