use Rattle.std.proofs.Common.{◌≡◌, drop, find}
use Rattle.drmaa_model.specs.Targets.{is_meant}
use Rattle.plan_book.specs.Blocks.{rows_in}
use Rattle.scheduler_core.proofs.targets.first_in_blocks.Given as goal

-- it is among those that are left to look at
abbrev pub invariant-loop-block : goal.invariant-loop-block
invariant-loop-block l = find (is_meant l.target) (rows_in l.blocks) ≡ find (is_meant l.target) (rows_in (drop l.block-index l.blocks))
