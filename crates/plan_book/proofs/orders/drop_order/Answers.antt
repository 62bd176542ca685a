use Rattle.std.proofs.Common.{true, refl, sym, ◌∙◌}
use Rattle.plan_book.specs.Book.{is_order}
use Rattle.plan_book.proofs.FirstOrder.{dropped-at, dropped-none}
use Rattle.plan_book.proofs.orders.drop_order.Goals as goal

pub returns-in-Some-clause-items : goal.returns-in-Some-clause-items
returns-in-Some-clause-items c = c.remove.ensures.items ∙ dropped-at (is_order c.args.job c.args.kind true) c.args.orders.now.items c.in-Some.place c.remove.result (c.in-Some.ensures {u = tt}).found

pub returns-in_default-clause-items : goal.returns-in_default-clause-items
returns-in_default-clause-items c = sym (dropped-none (is_order c.args.job c.args.kind true) c.args.orders.now.items ((c.in_default.ensures {u = tt}).none refl))
