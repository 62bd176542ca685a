use Rattle.std.proofs.Common.{◌≡◌, drop, find}
use Rattle.plan_book.specs.Book.{plan_of}
use Rattle.scheduler_core.specs.Signals.{is_killed}
use Rattle.scheduler_core.proofs.signals.kill_among.Given as goal

-- what is left to look at decides
abbrev pub invariant-loop-row : goal.invariant-loop-row
invariant-loop-row l = find (is_killed l.at (plan_of l.book)) l.rows ≡ find (is_killed l.at (plan_of l.book)) (drop l.row-index l.rows)
