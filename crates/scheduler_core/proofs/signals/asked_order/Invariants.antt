use Rattle.std.proofs.Common.{◌≡◌, drop, find}
use Rattle.drmaa_model.specs.Launching.{is_due_now}
use Rattle.drmaa_model.specs.Time.{rows_at}
use Rattle.plan_book.specs.Book.{plan_of}
use Rattle.scheduler_core.proofs.signals.asked_order.Given as goal

-- what is left to look at decides
abbrev pub invariant-loop-order : goal.invariant-loop-order
invariant-loop-order l = find (is_due_now (rows_at l.at (plan_of l.book))) l.order-items ≡ find (is_due_now (rows_at l.at (plan_of l.book))) (drop l.order-index l.order-items)
