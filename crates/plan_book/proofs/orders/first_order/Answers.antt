use Rattle.std.specs.List.{list_any}
use Rattle.std.proofs.Common.{false, ◌≡◌, ap, sym, ◌∙◌, arith}
use Rattle.plan_book.specs.Book.{is_order}
use Rattle.plan_book.proofs.FirstOrder.{none-next, none-any}
use Rattle.plan_book.proofs.orders.first_order.Goals as goal

pub loop-order-preserved : goal.loop-order-preserved
loop-order-preserved c = record {
  place = omega (arith, c.loop-order.invariant.place);
  before = none-next (is_order c.args.job c.args.kind c.args.taken) c.deref-order-items.result.now c.loop-order.order-index _ c.loop-order-test.true (sym c.is_order.ensures ∙ c.if-is_order.false) c.loop-order.invariant.before;
}

pub returns-clause-none : goal.returns-clause-none
returns-clause-none c = λ (none : false ≡ false).
    (let xs = c.deref-order-items.result.now in
    let test = is_order c.args.job c.args.kind c.args.taken in
    ap (list_any test) (sym c.deref-order-items.ensures.value)
    ∙ none-any test xs (λ k d within. c.loop-order.invariant.before k d (omega (arith, within, c.loop-order-test.false))))
