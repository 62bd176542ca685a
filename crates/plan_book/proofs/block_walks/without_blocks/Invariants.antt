use Rattle.std.proofs.Common.{◌≡◌, ◌+◌, take}
use Rattle.drmaa_model.specs.Submitting.{kept_text}
use Rattle.plan_book.specs.Blocks.{rows_in}
use Rattle.plan_book.proofs.block_walks.without_blocks.Given as goal

-- the room that is left, and what the jobs so far took
abbrev pub invariant-loop-block : goal.invariant-loop-block
invariant-loop-block l = l.room + kept_text (rows_in (take l.block-index l.blocks)) ≡ l.fn.room
