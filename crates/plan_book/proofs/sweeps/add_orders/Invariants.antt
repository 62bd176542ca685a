use Rattle.std.proofs.Common.{◌≡◌, ◌≤◌, ◌+◌, ◌++◌, drop, length, vec_len}
use Rattle.std.specs.Prelude.{vec_capacity}
use Rattle.std.specs.List.{flat_map}
use Rattle.drmaa_model.specs.Controlling.{asked_orders}
use Rattle.plan_book.proofs.sweeps.add_orders.Given as goal

-- what is added so far and what the rest adds are all, and there is room for the rest
abbrev pub invariant-loop-row : goal.invariant-loop-row
invariant-loop-row l =
    let rest = flat_map (asked_orders l.target l.what) (drop l.row-index l.rows) in
    record {
      items : l.orders.items ++ rest ≡ l.fn.orders.items ++ flat_map (asked_orders l.target l.what) l.rows;
      room : vec_len l.orders + length rest ≤ vec_capacity l.orders;
      len : vec_len l.orders + length rest ≡ vec_len l.fn.orders + length (flat_map (asked_orders l.target l.what) l.rows);
      capacity : vec_capacity l.orders ≡ vec_capacity l.fn.orders;
    }
