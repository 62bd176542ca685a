use Rattle.std.proofs.Common.{find, sym, ◌∙◌, ap, arith}
use Rattle.drmaa_model.specs.Launching.{is_due_now}
use Rattle.drmaa_model.specs.Time.{rows_at}
use Rattle.plan_book.specs.Book.{plan_of}
use Rattle.scheduler_core.proofs.Searches.{find-next, find-here, find-over}
use Rattle.scheduler_core.proofs.signals.asked_order.Goals as goal

pub loop-order-preserved : goal.loop-order-preserved
loop-order-preserved c =
    let test = is_due_now (rows_at c.args.at (plan_of c.args.book.now)) in
    c.loop-order.invariant
    ∙ find-next test c.deref-order-items.result.now c.loop-order.order-index _ (omega arith) (sym c.is_due_now.ensures ∙ c.if-is_due_now.false)

pub returns-then-is_due_now : goal.returns-then-is_due_now
returns-then-is_due_now c =
    let test = is_due_now (rows_at c.args.at (plan_of c.args.book.now)) in
    sym (ap (find test) (sym c.deref-order-items.ensures.value) ∙ c.loop-order.invariant
    ∙ find-here test c.deref-order-items.result.now c.loop-order.order-index _ (omega arith) (sym c.is_due_now.ensures ∙ c.if-is_due_now.true))

pub returns : goal.returns
returns c =
    let test = is_due_now (rows_at c.args.at (plan_of c.args.book.now)) in
    sym (ap (find test) (sym c.deref-order-items.ensures.value) ∙ c.loop-order.invariant
    ∙ find-over test c.deref-order-items.result.now c.loop-order.order-index c.loop-order-test.false)
