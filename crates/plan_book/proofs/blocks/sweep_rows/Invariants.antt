use Rattle.std.proofs.Common.{◌≡◌, ◌≤◌, ◌+◌, ◌++◌, ℕ, map, take, drop, length, vec_len}
use Rattle.std.specs.Prelude.{vec_capacity}
use Rattle.std.specs.List.{AllByRecursion, flat_map}
use Rattle.drmaa_model.specs.declared.rows.Row.{Row}
use Rattle.drmaa_model.specs.TimeLaws.{timed}
use Rattle.plan_book.specs.Blocks.{AreBlocks, rows_in}
use Rattle.plan_book.specs.Lapses.{ends, kills_then}
use Rattle.plan_book.specs.Quiet.{IsAlarmed}
use Rattle.plan_book.specs.Sums.{AreSums}
use Rattle.plan_book.proofs.BlockRows.{Upto}
use Rattle.plan_book.proofs.blocks.sweep_rows.Given as goal

-- the blocks so far are done, and there is room for what the rest adds
abbrev pub invariant-loop-block : goal.invariant-loop-block
invariant-loop-block l =
    let all = l.initial.blocks in
    let rs = l.rs.items in
    let f = timed l.moment rs in
    let ended = flat_map (ends l.entry l.moment rs) (rows_in (drop l.block all)) in
    let asked = flat_map (kills_then l.moment rs) (rows_in (drop l.block all)) in
    record {
      are : (from k : ℕ) → AreBlocks from k all → AreBlocks from k l.blocks;
      upto : Upto (map f) 0 l.block all l.blocks;
      changes : l.changes.items ++ ended ≡ l.fn.changes.items ++ flat_map (ends l.entry l.moment rs) (rows_in all);
      changes_room : vec_len l.changes + length ended ≤ vec_capacity l.changes;
      changes_len : vec_len l.changes + length ended ≡ vec_len l.fn.changes + length (flat_map (ends l.entry l.moment rs) (rows_in all));
      changes_capacity : vec_capacity l.changes ≡ vec_capacity l.fn.changes;
      orders : l.orders.items ++ asked ≡ l.fn.orders.items ++ flat_map (kills_then l.moment rs) (rows_in all);
      orders_room : vec_len l.orders + length asked ≤ vec_capacity l.orders;
      orders_len : vec_len l.orders + length asked ≡ vec_len l.fn.orders + length (flat_map (kills_then l.moment rs) (rows_in all));
      orders_capacity : vec_capacity l.orders ≡ vec_capacity l.fn.orders;
      sums : AreSums (map f (rows_in (take l.block all))) l.sums;
      alarmed : AllByRecursion (IsAlarmed l.alarm.ends.items rs) (map f (rows_in (take l.block all)));
      kept : (row : Row) → IsAlarmed l.fn.alarm.ends.items rs row → IsAlarmed l.alarm.ends.items rs row;
      blocks : length l.alarm.ends.items ≡ length l.fn.alarm.ends.items;
    }
