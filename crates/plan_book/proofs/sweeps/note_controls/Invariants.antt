use Rattle.std.proofs.Common.{◌≡◌, ◌≤◌, ◌+◌, ◌++◌, drop, length, vec_len}
use Rattle.std.specs.Prelude.{vec_capacity}
use Rattle.std.specs.List.{flat_map}
use Rattle.plan_book.specs.Sweeps.{noted}
use Rattle.plan_book.proofs.sweeps.note_controls.Given as goal

-- what is added so far and what the rest adds are all, and there is room for the rest
abbrev pub invariant-loop-row : goal.invariant-loop-row
invariant-loop-row l =
    let rest = flat_map (noted l.entry l.moment l.target l.what) (drop l.row-index l.rows) in
    record {
      items : l.changes.items ++ rest ≡ l.fn.changes.items ++ flat_map (noted l.entry l.moment l.target l.what) l.rows;
      room : vec_len l.changes + length rest ≤ vec_capacity l.changes;
      len : vec_len l.changes + length rest ≡ vec_len l.fn.changes + length (flat_map (noted l.entry l.moment l.target l.what) l.rows);
      capacity : vec_capacity l.changes ≡ vec_capacity l.fn.changes;
    }
