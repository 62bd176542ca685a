use Rattle.std.proofs.Common.{◌≡◌, drop}
use Rattle.std.specs.List.{list_any}
use Rattle.plan_book.specs.Blocks.{rows_in}
use Rattle.scheduler_core.specs.Facts.{is_own_member}
use Rattle.scheduler_core.proofs.facts.is_any_own_in.Given as goal

-- what is left to look at decides
abbrev pub invariant-loop-block : goal.invariant-loop-block
invariant-loop-block l = list_any (is_own_member l.home l.array) (rows_in l.blocks) ≡ list_any (is_own_member l.home l.array) (rows_in (drop l.block-index l.blocks))
