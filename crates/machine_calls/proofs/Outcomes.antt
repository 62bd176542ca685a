-- What an operation comes to leaves no more reports to come.
use Rattle.std.proofs.Common.{◌≡◌, ℕ, ◌≤◌, Bool, true, false, eqb, not, ◌&&◌, [], ◌∷◌, map, Option, Some, None, refl, sym, ◌∙◌, ap, arith}
use Rattle.std.specs.Option.{option_map_or}
use Rattle.std.specs.Prelude.{is_some, Ok, Err}
use Rattle.std.proofs.lemmas.Bool.{and_parts, not-false}
use Rattle.drmaa_types.specs.Refusals.{first_refusal}
use Rattle.drmaa_types.specs.declared.identifiers.JobId.{JobId}
use Rattle.drmaa_types.specs.declared.identifiers.ReservationId.{ReservationId}
use Rattle.drmaa_types.specs.declared.refusals.Refusal.{Refusal}
use Rattle.drmaa_types.specs.declared.refusals.Refusal.TheVariants.{InvalidArgument, InvalidState}
use Rattle.drmaa_types.specs.declared.refusals.Which.TheVariants as which
use Rattle.drmaa_types.specs.declared.states.Control.{Control}
use Rattle.drmaa_types.specs.declared.states.SignalKind.{SignalKind}
use Rattle.drmaa_types.specs.declared.states.SignalKind.TheVariants as signal
use Rattle.drmaa_model.specs.declared.calls.Report.{Report}
use Rattle.drmaa_model.specs.declared.calls.Report.TheVariants as report
use Rattle.drmaa_model.specs.declared.calls.Target.{Target}
use Rattle.drmaa_model.specs.declared.courses.Course.{Course}
use Rattle.drmaa_model.specs.declared.courses.Phase.{Phase}
use Rattle.drmaa_model.specs.declared.courses.Phase.TheVariants.{Idle, Launching, Alive}
use Rattle.drmaa_model.specs.declared.rows.Row.{Row}
use Rattle.drmaa_model.specs.Controlling.{control, reap, is_done}
use Rattle.drmaa_model.specs.Courses.{begun, unstarted, exited, lost, signal_failed}
use Rattle.drmaa_model.specs.Fit.{IsFit}
use Rattle.drmaa_model.specs.Operation.{Operation, Outcome, outcome}
use Rattle.drmaa_model.specs.OperationLaws.{no_test}
use Rattle.drmaa_model.specs.Plan.{Plan}
use Rattle.drmaa_model.specs.Reporting.{report_of, report_tests, may_begin, is_launching}
use Rattle.drmaa_model.specs.Requests.{end_reservation, without_reservation}
use Rattle.drmaa_model.specs.RowLaws.{row_of-is}
use Rattle.drmaa_model.specs.Rows.{row_of, state_of, with_course}
use Rattle.drmaa_model.specs.Targets.{is_meant}
use Rattle.scheduler_core.specs.Facts.{reports_due, reports_to_come}
use Rattle.machine_calls.proofs.Dues.{due, due-filter, expire-due, control-due, go-due}

pub outcome-due : {A : Type 0} (op : Operation A) (entry : ℕ) (q : Plan) → (op.refusal q ≡ None → reports_to_come (op.effect entry q).rows ≤ reports_to_come q.rows)
    → reports_to_come (outcome op entry q).plan.rows ≤ reports_to_come q.rows
outcome-due {A} op entry q less =
    (elim (op.refusal q) as (λ o. op.refusal q ≡ o → reports_to_come (option_map_or {U = Outcome A} (λ (why : Refusal). record { answer = Err why; plan = q }) o (record { answer = Ok (op.told q); plan = op.effect entry q })).plan.rows ≤ reports_to_come q.rows) [
      | None ↦ λ is. less is
      | Some why ↦ λ is. omega arith
    ]) refl

pub reap-outcome : (t : Target) (entry : ℕ) (q : Plan) → IsFit q → reports_to_come (outcome (reap t) entry q).plan.rows ≤ reports_to_come q.rows
reap-outcome t entry q fit = outcome-due (reap t) entry q (λ free. due-filter (λ (row : Row). not (is_meant t row && is_done row)) q.rows)

pub control-outcome : (t : Target) (what : Control) (entry : ℕ) (q : Plan) → IsFit q → reports_to_come (outcome (control t what) entry q).plan.rows ≤ reports_to_come q.rows
control-outcome t what entry q fit = outcome-due (control t what) entry q (λ free. control-due q.moment t what q.rows)

pub end-outcome : (number : ReservationId) (entry : ℕ) (q : Plan) → IsFit q → reports_to_come (outcome (end_reservation number) entry q).plan.rows ≤ reports_to_come q.rows
end-outcome number entry q fit = outcome-due (end_reservation number) entry q (λ free. expire-due entry (without_reservation number q))

-- ---- reports

-- the row of a job that goes on by a course whose process brings no more reports
row-less : (q : Plan) (job : JobId) (row : Row) (course : Course) → IsFit q → row_of job q.rows ≡ Some row → reports_due course.phase ≤ due row
    → reports_to_come (map (with_course row.job course) q.rows) ≤ reports_to_come q.rows
row-less q job row course fit found less =
    let own : row_of row.job q.rows ≡ Some row = ap (λ n. row_of (record { 0 = n }) q.rows) (row_of-is job q.rows row found) ∙ found in
    omega (arith, go-due q row course fit.jobs.rising own, less)

pub launching-due : (p : Phase) → is_launching p ≡ true → reports_due p ≡ 2
launching-due Idle is = absurd (cc)
launching-due Launching is = refl
launching-due Alive is = absurd (cc)

failed-due : (kind : SignalKind) (c : Course) → reports_due (signal_failed kind c).phase ≤ reports_due c.phase
failed-due signal.Stop c = omega arith
failed-due signal.Cont c = omega arith
failed-due signal.Kill c = omega arith

-- what a report's effect does to the row that is found
by-row : (q : Plan) (job : JobId) (effect : Row → Plan) → ((row : Row) → row_of job q.rows ≡ Some row → reports_to_come (effect row).rows ≤ reports_to_come q.rows)
    → reports_to_come (option_map_or effect (row_of job q.rows) q).rows ≤ reports_to_come q.rows
by-row q job effect each =
    (elim (row_of job q.rows) as (λ o. row_of job q.rows ≡ o → reports_to_come (option_map_or effect o q).rows ≤ reports_to_come q.rows) [
      | None ↦ λ is. omega arith
      | Some row ↦ λ is. each row is
    ]) refl

begins : (test : Course → Bool) (job : JobId) (q : Plan) (row : Row) → first_refusal (report_tests test job q) ≡ None → row_of job q.rows ≡ Some row → test row.course ≡ true
begins test job q row free found =
    let first : Bool × Refusal = (not (is_some (row_of job q.rows)), InvalidArgument which.Job) in
    let last : Bool × Refusal = (not (option_map_or (λ (r : Row). test r.course) (row_of job q.rows) false), InvalidState (state_of job q.rows)) in
    let second = no_test first (last ∷ []) free in
    let third = no_test last [] second.1 in
    sym (ap (λ (o : Option Row). option_map_or (λ (r : Row). test r.course) o false) found) ∙ not-false (option_map_or (λ (r : Row). test r.course) (row_of job q.rows) false) third.0

pub report-due : (r : Report) (entry : ℕ) (q : Plan) → IsFit q → (report_of r).refusal q ≡ None → reports_to_come ((report_of r).effect entry q).rows ≤ reports_to_come q.rows
report-due (report.Started job attempt) entry q fit free =
    by-row q job _ (λ row found.
    (let launching = launching-due row.course.phase (and_parts (is_launching row.course.phase) (eqb row.course.attempt attempt) (begins (may_begin attempt) job q row free found)).0 in
    row-less q job row (begun row.course) fit found (omega (arith, launching))))
report-due (report.StartFailed job attempt) entry q fit free = by-row q job _ (λ row found. row-less q job row (unstarted q.moment row.wants.rerunnable row.course) fit found (omega arith))
report-due (report.Exited job attempt exit) entry q fit free = by-row q job _ (λ row found. row-less q job row (exited q.moment exit row.wants.rerunnable row.course) fit found (omega arith))
report-due (report.ExitUnknown job attempt) entry q fit free = by-row q job _ (λ row found. row-less q job row (lost q.moment row.wants.rerunnable row.course) fit found (omega arith))
report-due (report.SignalDone job attempt kind) entry q fit free = by-row q job _ (λ row found. omega arith)
report-due (report.SignalFailed job attempt kind) entry q fit free = by-row q job _ (λ row found. row-less q job row (signal_failed kind row.course) fit found (failed-due kind row.course))

pub report-outcome : (r : Report) (entry : ℕ) (q : Plan) → IsFit q → reports_to_come (outcome (report_of r) entry q).plan.rows ≤ reports_to_come q.rows
report-outcome r entry q fit = outcome-due (report_of r) entry q (report-due r entry q fit)
