use Rattle.std.proofs.Common.{◌≡◌, ℕ, ◌<◌, false, get_or}
use Rattle.drmaa_model.specs.declared.courses.Order.{Order}
use Rattle.plan_book.specs.Book.{is_order}
use Rattle.plan_book.proofs.orders.first_order.Given as goal

-- no order before this one meets the test
abbrev pub invariant-loop-order : goal.invariant-loop-order
invariant-loop-order l = record {
  place : l.place ≡ l.order-index;
  before : (k : ℕ) (d : Order) → k < l.order-index → is_order l.job l.kind l.taken (get_or l.order-items k d) ≡ false;
}
