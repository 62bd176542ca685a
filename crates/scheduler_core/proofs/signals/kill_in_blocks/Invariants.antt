use Rattle.std.proofs.Common.{◌≡◌, drop, find}
use Rattle.plan_book.specs.Blocks.{rows_in}
use Rattle.plan_book.specs.Book.{plan_of}
use Rattle.scheduler_core.specs.Signals.{is_killed}
use Rattle.scheduler_core.proofs.signals.kill_in_blocks.Given as goal

-- it is among those that are left to look at
abbrev pub invariant-loop-block : goal.invariant-loop-block
invariant-loop-block l = find (is_killed l.at (plan_of l.book)) (rows_in l.blocks) ≡ find (is_killed l.at (plan_of l.book)) (rows_in (drop l.block-index l.blocks))
