use Rattle.std.proofs.Common.{◌≡◌, ◌+◌, ℕ, Bool, ◌≤◌, ◌&&◌, filter, drop}
use Rattle.drmaa_model.specs.declared.rows.Row.{Row}
use Rattle.drmaa_model.specs.Controlling.{is_done}
use Rattle.drmaa_model.specs.Submitting.{kept_text}
use Rattle.drmaa_model.specs.Targets.{is_meant}
use Rattle.plan_book.specs.Texts.{IsRoomBeside}
use Rattle.plan_book.proofs.texts.room_without_done.Given as goal

-- the text without that of the jobs so far which are forgotten
abbrev pub invariant-loop-row : goal.invariant-loop-row
invariant-loop-row l =
    let leaves : Row → Bool = λ (row : Row). is_meant l.target row && is_done row in
    record {
      text : (text : ℕ) → IsRoomBeside (text + kept_text (filter leaves l.rows)) l.fn.room → l.text ≡ text + kept_text (filter leaves (drop l.row-index l.rows));
      most : l.text ≤ 67_108_864;
    }
