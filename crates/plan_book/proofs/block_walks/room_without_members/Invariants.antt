use Rattle.std.proofs.Common.{◌+◌, ℕ, Bool, ◌≤◌, ◌&&◌, filter, drop, Some}
use Rattle.drmaa_model.specs.declared.rows.Row.{Row}
use Rattle.drmaa_model.specs.Controlling.{is_done}
use Rattle.drmaa_model.specs.Submitting.{kept_text, most_kept_text}
use Rattle.drmaa_model.specs.Targets.{is_meant}
use Rattle.plan_book.specs.Blocks.{rows_in}
use Rattle.plan_book.specs.Texts.{IsRoomBeside}
use Rattle.plan_book.proofs.block_walks.room_without_members.Given as goal

abbrev pub invariant-loop-block : goal.invariant-loop-block
invariant-loop-block l =
    let leaves : Row → Bool = λ (row : Row). is_meant l.target row && is_done row in
    record {
      text : (text : ℕ) → IsRoomBeside (text + kept_text (filter leaves (rows_in l.blocks))) l.fn.room → IsRoomBeside (text + kept_text (filter leaves (rows_in (drop l.block-index l.blocks)))) (Some l.room);
      most : l.room ≤ most_kept_text;
    }
