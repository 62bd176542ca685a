use Rattle.std.proofs.Common.{◌≡◌, nat_le, drop, find}
use Rattle.drmaa_model.specs.declared.rows.Row.{Row}
use Rattle.plan_book.specs.Blocks.{rows_in}
use Rattle.scheduler_core.proofs.facts.first_in_blocks.Given as goal

-- it is among those that are left to look at
abbrev pub invariant-loop-block : goal.invariant-loop-block
invariant-loop-block l = find (λ (row : Row). nat_le l.from.0 row.job.0) (rows_in l.blocks) ≡ find (λ (row : Row). nat_le l.from.0 row.job.0) (rows_in (drop l.block-index l.blocks))
