use Rattle.std.proofs.Common.{◌≡◌, drop}
use Rattle.drmaa_model.specs.Events.{started_from}
use Rattle.plan_book.specs.Blocks.{rows_in}
use Rattle.scheduler_core.proofs.running.first_in_blocks.Given as goal

-- it is among those that are left to look at
abbrev pub invariant-loop-block : goal.invariant-loop-block
invariant-loop-block l = started_from l.from.0 (rows_in l.blocks) ≡ started_from l.from.0 (rows_in (drop l.block-index l.blocks))
