use Rattle.std.proofs.Common.{◌≡◌, ◌≤◌, ◌+◌, ◌++◌, drop, length, vec_len}
use Rattle.std.specs.Prelude.{vec_capacity}
use Rattle.std.specs.List.{flat_map}
use Rattle.drmaa_model.specs.Controlling.{asked_orders}
use Rattle.plan_book.specs.Blocks.{rows_in}
use Rattle.plan_book.specs.Meant.{rows_of}
use Rattle.plan_book.proofs.meant.order_among.Given as goal

-- what is added so far and what the rest adds are all, and there is room for the rest
abbrev pub invariant-loop-block : goal.invariant-loop-block
invariant-loop-block l =
    let f = asked_orders l.target l.what in
    let rest = flat_map f (rows_in (drop l.block-index l.block-items)) in
    record {
      items : l.orders.items ++ rest ≡ l.fn.orders.items ++ flat_map f (rows_of l.rows);
      room : vec_len l.orders + length rest ≤ vec_capacity l.orders;
      len : vec_len l.orders + length rest ≡ vec_len l.fn.orders + length (flat_map f (rows_of l.rows));
      capacity : vec_capacity l.orders ≡ vec_capacity l.fn.orders;
    }
