-- The journal has room for the reports that are to come.
use Rattle.std.proofs.Common.{◌≡◌, ℕ, ◌≤◌, cond, true, false, refl, ap, arith}
use Rattle.drmaa_types.specs.States.{is_waiting}
use Rattle.drmaa_model.specs.declared.courses.Course.{Course}
use Rattle.drmaa_model.specs.declared.courses.Phase.{Phase}
use Rattle.drmaa_model.specs.declared.courses.Phase.TheVariants.{Idle, Launching, Alive}
use Rattle.drmaa_model.specs.declared.rows.Row.{Row}
use Rattle.drmaa_model.specs.declared.rows.Wants.{Wants}
use Rattle.drmaa_model.specs.Fit.{IsFit, IsSound}
use Rattle.drmaa_model.specs.Plan.{Plan}
use Rattle.drmaa_model.specs.RowLaws.{all-implied}
use Rattle.drmaa_model.specs.Size.{phase_room, room_of, promised, weight}
use Rattle.drmaa_model.specs.SumLaws.{sum-le}
use Rattle.drmaa_model.specs.TimeLaws.{waits-not_started}
use Rattle.scheduler_core.specs.Facts.{reports_due, reports_to_come}

due-phase : (phase : Phase) → reports_due phase ≤ phase_room phase
due-phase Idle = omega arith
due-phase Launching = omega arith
due-phase Alive = omega arith

due-room : (wants : Wants) (course : Course) → IsSound wants course → reports_due course.phase ≤ room_of course
due-room wants course sound =
    (elim (is_waiting course.state) as (λ b. is_waiting course.state ≡ b → reports_due course.phase ≤ cond {A = ℕ} b 1 (phase_room course.phase)) [
      | true ↦ λ e. (let none : reports_due course.phase ≡ 0 = ap reports_due (sound.idle (waits-not_started course.state e)).0 in omega (arith, none))
      | false ↦ λ e. due-phase course.phase
    ]) refl

-- in the room that is promised to the jobs
pub reports-promised : (p : Plan) → IsFit p → reports_to_come p.rows ≤ promised p.rows
reports-promised p fit =
    sum-le (λ (row : Row). reports_due row.course.phase) (λ (row : Row). room_of row.course) p.rows
    (all-implied (λ (r : Row). IsSound r.wants r.course) (λ (r : Row). reports_due r.course.phase ≤ room_of r.course) (λ r sound. due-room r.wants r.course sound) p.rows fit.sound)

pub reports-room : (p : Plan) → IsFit p → reports_to_come p.rows ≤ weight p
reports-room p fit = (let within = reports-promised p fit in omega (arith, within))
