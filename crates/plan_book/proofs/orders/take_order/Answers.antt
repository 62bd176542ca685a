use Rattle.std.proofs.Common.{true, false, set, refl, sym, ◌∙◌, ap}
use Rattle.drmaa_model.specs.declared.courses.Order.{Order}
use Rattle.plan_book.specs.Book.{is_order}
use Rattle.plan_book.proofs.FirstOrder.{taken-at, taken-none}
use Rattle.plan_book.proofs.orders.take_order.Goals as goal

pub returns-in-Some-clause-items : goal.returns-in-Some-clause-items
returns-in-Some-clause-items c =
    let xs = c.args.orders.now.items in
    ap (λ (o : Order). set xs c.in-Some.place (record o { taken = true })) c.index_mut.ensures.value
    ∙ taken-at (is_order c.args.job c.args.kind false) xs c.in-Some.place c.index_mut.result.now (c.in-Some.ensures {u = tt}).found

pub returns-in_default-clause-items : goal.returns-in_default-clause-items
returns-in_default-clause-items c = sym (taken-none (is_order c.args.job c.args.kind false) c.args.orders.now.items ((c.in_default.ensures {u = tt}).none refl))
