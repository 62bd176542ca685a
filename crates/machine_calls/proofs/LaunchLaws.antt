-- What a launch adds: to the journal's size exactly four, and to the reports that are to come exactly two.
use Rattle.std.proofs.Common.{◌≡◌, ℕ, ◌+◌, cond, [], ◌∷◌, length, Option, Some, None, refl, ◌∙◌, ap, arith, true, false}
use Rattle.std.specs.Option.{option_map, option_map_or}
use Rattle.drmaa_types.specs.States.{is_state, is_waiting}
use Rattle.drmaa_types.specs.declared.changes.Change.{Change}
use Rattle.drmaa_types.specs.declared.states.JobState.{JobState}
use Rattle.drmaa_types.specs.declared.states.JobState.TheVariants.{Undetermined, Queued, QueuedHeld, Running, Suspended, Requeued, RequeuedHeld, Done, Failed}
use Rattle.drmaa_model.specs.declared.replies.Launch.{Launch}
use Rattle.drmaa_model.specs.declared.rows.Row.{Row}
use Rattle.drmaa_model.specs.Courses.{launched, planned_end}
use Rattle.drmaa_model.specs.Fit.{IsFit}
use Rattle.drmaa_model.specs.Launching.{launch, launch_of, launch_row}
use Rattle.drmaa_model.specs.OperationLaws.{row-sound}
use Rattle.drmaa_model.specs.NextLaunch.{next_launch}
use Rattle.drmaa_model.specs.NextLaunchLaws.{next_launch-is}
use Rattle.drmaa_model.specs.Plan.{Plan}
use Rattle.drmaa_model.specs.Rows.{change_of}
use Rattle.drmaa_model.specs.Size.{phase_room, room_of, weight}
use Rattle.drmaa_model.specs.WeightLaws.{go_on-weight}
use Rattle.scheduler_core.specs.Facts.{reports_due, reports_to_come}
use Rattle.machine_calls.proofs.Dues.{go-due}

waits-not_running : (s : JobState) → is_waiting s ≡ true → is_state s Running ≡ false
waits-not_running Undetermined h = refl
waits-not_running Queued h = refl
waits-not_running QueuedHeld h = refl
waits-not_running Running h = absurd (cc)
waits-not_running Suspended h = refl
waits-not_running Requeued h = refl
waits-not_running RequeuedHeld h = refl
waits-not_running Done h = refl
waits-not_running Failed h = refl

module _ (entry : ℕ) (p : Plan) (row : Row) (slots : ℕ) (fit : IsFit p) (first : next_launch p ≡ Some (row, slots)) where
  -- its job's change, and the room for three more
  row-weight : weight (launch_row entry row slots p) ≡ weight p + 4
  row-weight =
      let next = next_launch-is p (row, slots) fit.jobs.rising first in
      let course = launched p.moment slots (planned_end row.wants p.moment) row.course in
      let sum = go_on-weight entry p row.job row course fit next.kept in
      let change : Change = record { entry = entry; job = row.job; home = row.home; from = row.course.state; to = Running } in
      let one : length (change_of entry row (record row { course = course })) ≡ 1 = ap (λ b. length {A = Change} (cond b [] (change ∷ []))) (waits-not_running row.course.state next.state.waits) in
      let before : room_of row.course ≡ 1 = ap (λ b. cond {A = ℕ} b 1 (phase_room row.course.phase)) next.state.waits in
      omega (arith, sum, one, before)

  -- those of its start and of its end
  row-reports : reports_to_come (launch_row entry row slots p).rows ≡ reports_to_come p.rows + 2
  row-reports =
      let next = next_launch-is p (row, slots) fit.jobs.rising first in
      let course = launched p.moment slots (planned_end row.wants p.moment) row.course in
      let sum = go-due p row course fit.jobs.rising next.kept in
      let before : reports_due row.course.phase ≡ 0 = ap reports_due ((row-sound row.job p row fit next.kept).idle next.state.idle).0 in
      omega (arith, sum, before)

-- what the launch that is next adds
pub record Adds (entry : ℕ) (p : Plan) : Type 0 where
  pub weighs : weight (launch.effect entry p) ≡ weight p + 4
  pub reports : reports_to_come (launch.effect entry p).rows ≡ reports_to_come p.rows + 2

pub launch-adds : (entry : ℕ) (p : Plan) (l : Launch) → IsFit p → launch.told p ≡ Some l → Adds entry p
launch-adds entry p l fit told =
    (elim (next_launch p) as (λ o. next_launch p ≡ o → option_map (λ (next : Row × ℕ). launch_of next.0 next.1) o ≡ Some l → Adds entry p) [
      | None ↦ λ is same. absurd (cc)
      | Some next ↦ λ is same.
          (let after : launch.effect entry p ≡ launch_row entry next.0 next.1 p = ap (λ (o : Option (Row × ℕ)). option_map_or (λ (n : Row × ℕ). launch_row entry n.0 n.1 p) o p) is in
          record {
            weighs = ap weight after ∙ row-weight entry p next.0 next.1 fit is;
            reports = ap (λ (q : Plan). reports_to_come q.rows) after ∙ row-reports entry p next.0 next.1 fit is;
          })
    ]) refl told
