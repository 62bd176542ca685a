use Rattle.std.proofs.Common.{◌≡◌, ◌+◌, take}
use Rattle.drmaa_model.specs.Submitting.{kept_text}
use Rattle.plan_book.proofs.texts.without_rows.Given as goal

-- the room that is left, and what the jobs so far took
abbrev pub invariant-loop-row : goal.invariant-loop-row
invariant-loop-row l = l.room + kept_text (take l.row-index l.rows) ≡ l.fn.room
