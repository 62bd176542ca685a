use Rattle.std.proofs.Common.{◌≡◌, ◌+◌, ◌++◌, [], List, drop, length, length-append, append-nil, ap, sym, ◌∙◌, arith}
use Rattle.std.specs.List.{flat_map}
use Rattle.std.proofs.Math.ListN.{drop_of_length-le}
use Rattle.std.proofs.lemmas.List.{append_assoc}
use Rattle.drmaa_model.specs.declared.courses.Order.{Order}
use Rattle.drmaa_model.specs.declared.rows.Row.{Row}
use Rattle.drmaa_model.specs.Controlling.{asked_orders}
use Rattle.plan_book.proofs.Flat.{flat-more}
use Rattle.plan_book.proofs.sweeps.add_orders.Goals as goal

pub add_order-requires : goal.add_order-requires
add_order-requires c =
    let f = asked_orders c.args.target.now c.args.what in
    let xs = c.args.rows.now in
    let i = c.loop-row.row-index in
    let next = flat-more f xs i c.row-item.result c.loop-row-test.true c.row-item.is in
    omega (arith, c.loop-row.invariant.room, ap length next, length-append (f c.row-item.result) (flat_map f (drop (i + 1) xs)))

pub loop-row-preserved : goal.loop-row-preserved
loop-row-preserved c =
    let f = asked_orders c.args.target.now c.args.what in
    let xs = c.args.rows.now in
    let i = c.loop-row.row-index in
    let rest = flat_map f (drop (i + 1) xs) in
    let next = flat-more f xs i c.row-item.result c.loop-row-test.true c.row-item.is in
    let long = length-append (f c.row-item.result) rest in
    record {
      items = ap (λ (ys : List Order). ys ++ rest) c.add_order.ensures.items ∙ append_assoc c.loop-row.orders.items (f c.row-item.result) rest
          ∙ ap (λ (ys : List Order). c.loop-row.orders.items ++ ys) (sym next) ∙ c.loop-row.invariant.items;
      room = omega (arith, c.loop-row.invariant.room, ap length next, long, c.add_order.ensures.len, c.add_order.ensures.capacity);
      len = omega (arith, c.loop-row.invariant.len, ap length next, long, c.add_order.ensures.len);
      capacity = c.add_order.ensures.capacity ∙ c.loop-row.invariant.capacity;
    }

pub returns-clause-items : goal.returns-clause-items
returns-clause-items c =
    let f = asked_orders c.args.target.now c.args.what in
    let xs = c.args.rows.now in
    let none : drop c.loop-row.row-index xs ≡ [] = drop_of_length-le xs c.loop-row-test.false in
    sym (append-nil c.loop-row.orders.items) ∙ ap (λ (ys : List Row). c.loop-row.orders.items ++ flat_map f ys) (sym none) ∙ c.loop-row.invariant.items
