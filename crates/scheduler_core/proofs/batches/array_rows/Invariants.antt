use Rattle.std.proofs.Common.{◌≡◌, ◌+◌, ◌-◌, ◌*◌, ◌++◌}
use Rattle.drmaa_model.specs.Submitting.{index_count, new_text}
use Rattle.scheduler_core.specs.Batches.{batch_rows, members_from}
use Rattle.scheduler_core.proofs.batches.array_rows.Given as goal

-- the rows so far and those that are left, and the room that is left and what it is for
abbrev pub invariant-loop-place : goal.invariant-loop-place
invariant-loop-place l = record {
  rows : l.rows.items ++ batch_rows l.queues l.b (l.b.first + l.place) (members_from l.b l.t l.i (l.i.begin + l.place * l.i.step) (index_count l.i - l.place)) ≡ batch_rows l.queues l.b l.b.first (members_from l.b l.t l.i l.i.begin (index_count l.i));
  text : l.room + new_text (members_from l.b l.t l.i l.i.begin (index_count l.i)) ≡ l.fn.room + new_text (members_from l.b l.t l.i (l.i.begin + l.place * l.i.step) (index_count l.i - l.place));
}
