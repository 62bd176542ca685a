-- A launch, and a report, move one job.
use Rattle.std.proofs.Common.{◌≡◌, ◌≢◌, ℕ, Bool, true, false, cond, List, [], ◌∷◌, map, Some, None, refl, sym, ◌∙◌, ap}
use Rattle.std.specs.List.{AllByRecursion}
use Rattle.std.specs.Option.{option_map}
use Rattle.std.proofs.lemmas.Bool.{eqb-true, ne_eqb}
use Rattle.drmaa_types.specs.declared.identifiers.JobId.{JobId}
use Rattle.drmaa_model.specs.declared.calls.Report.{Report}
use Rattle.drmaa_model.specs.declared.calls.Report.TheVariants as report
use Rattle.drmaa_model.specs.declared.courses.Course.{Course}
use Rattle.drmaa_model.specs.declared.rows.Row.{Row}
use Rattle.drmaa_model.specs.Courses.{planned_end, launched}
use Rattle.drmaa_model.specs.Fit.{IsFit}
use Rattle.drmaa_model.specs.Launching.{launch}
use Rattle.drmaa_model.specs.LaunchFit.{launch-effect}
use Rattle.drmaa_model.specs.Moving.{MovesOne, ReportMoves, job_of, course_after}
use Rattle.drmaa_model.specs.OperationLaws.{own-job}
use Rattle.drmaa_model.specs.NextLaunch.{next_launch}
use Rattle.drmaa_model.specs.NextLaunchLaws.{next_launch-is}
use Rattle.drmaa_model.specs.Plan.{Plan}
use Rattle.drmaa_model.specs.Reporting.{may_begin, may_exit, may_tell, start_row, unstart_row, end_row, lose_row, done_row, undone_row, report_of}
use Rattle.drmaa_model.specs.ReportLaws.{report-leads}
use Rattle.drmaa_model.specs.RowLaws.{all-implied, row_of-is, row_of-map, rising-found}
use Rattle.drmaa_model.specs.Rows.{is_of, row_of, with_course}

same-job : (a b : JobId) → a.0 ≡ b.0 → a ≡ b
same-job a b same = ap (λ (n : ℕ). let j : JobId = record { 0 = n } in j) same

with_course-job : (job : JobId) (course : Course) (r : Row) → (with_course job course r).job ≡ r.job
with_course-job job course r = elim (is_of job r) as (λ b. (cond b (record r { course = course }) r).job ≡ r.job) [ true ↦ refl | false ↦ refl ]

-- each other job is as it was
pub others-stay : (p q : Plan) (row : Row) (course : Course) (job : JobId) → MovesOne p q row course → row.job.0 ≢ job.0 → row_of job q.rows ≡ row_of job p.rows
others-stay p q row course job moves other =
    ap (row_of job) moves.rows ∙ row_of-map (with_course row.job course) (with_course-job row.job course) job p.rows
    ∙ (elim (row_of job p.rows) as (λ o. row_of job p.rows ≡ o → option_map (with_course row.job course) o ≡ o) [
      | None ↦ λ e. refl
      | Some r ↦ λ e. (let number = row_of-is job p.rows r e in
          ap (λ (b : Bool). Some (cond b (record r { course = course }) r)) (ne_eqb r.job.0 row.job.0 (λ same. other (sym same ∙ number))))
    ]) refl

-- a launch moves the job that is launched
pub launch-moves : (entry : ℕ) (p : Plan) (next : Row × ℕ) → IsFit p → next_launch p ≡ Some next → MovesOne p (launch.effect entry p) next.0 (launched p.moment next.1 (planned_end next.0.wants p.moment) next.0.course)
launch-moves entry p next fit first =
    let effect = launch-effect entry p next first in
    record {
      found = (next_launch-is p next fit.jobs.rising first).kept;
      rows = ap (λ (q : Plan). q.rows) effect;
      reservations = ap (λ (q : Plan). q.reservations) effect;
      moment = ap (λ (q : Plan). q.moment) effect;
    }

-- a job that goes on by its own course stays as it is
with_own : (rows : List Row) (row : Row) → AllByRecursion (λ (r : Row). row_of r.job rows ≡ Some r) rows → row_of row.job rows ≡ Some row → AllByRecursion (λ (r : Row). with_course row.job row.course r ≡ r) rows
with_own rows row found own =
    all-implied (λ (r : Row). row_of r.job rows ≡ Some r) (λ (r : Row). with_course row.job row.course r ≡ r)
    (λ r is. (elim (is_of row.job r) as (λ b. is_of row.job r ≡ b → cond b (record r { course = row.course }) r ≡ r) [
      | true ↦ λ e.
          (let same : r ≡ row = injective r row (sym is ∙ ap (λ (j : JobId). row_of j rows) (same-job r.job row.job (eqb-true r.job.0 row.job.0 e)) ∙ own) in
          ap (λ (c : Course). record r { course = c }) (sym (ap (λ (x : Row). x.course) same)))
      | false ↦ λ e. refl
    ]) refl) rows found where
      injective : (a b : Row) → Some a ≡ Some b → a ≡ b
      injective a b same = cc

map-same : (f : Row → Row) (rows : List Row) → AllByRecursion (λ (r : Row). f r ≡ r) rows → map f rows ≡ rows
map-same f [] all = refl
map-same f (r ∷ rows) all = ap (λ x. x ∷ map f rows) all.0 ∙ ap (λ xs. r ∷ xs) (map-same f rows all.1)

-- the job that a report is of goes on by the course after it
found-moves : (r : Report) (p q : Plan) (row : Row) → row_of (job_of r) p.rows ≡ Some row → q.rows ≡ map (with_course row.job (course_after p.moment r row)) p.rows
    → q.reservations ≡ p.reservations → q.moment ≡ p.moment → ReportMoves r p q
found-moves r p q row found rows reservations moment = record {
  row = row;
  number = same-job row.job (job_of r) (row_of-is (job_of r) p.rows row found);
  moves = record { found = own-job (job_of r) p row found; rows = rows; reservations = reservations; moment = moment };
}

-- an accepted report moves the job that it is of
pub report-moves : (r : Report) (entry : ℕ) (p : Plan) → IsFit p → (report_of r).refusal p ≡ None → ReportMoves r p ((report_of r).effect entry p)
report-moves (report.Started job attempt) entry p fit free =
    report-leads (ReportMoves (report.Started job attempt) p) (λ q. may_begin attempt) job start_row entry p
    (λ row found may. found-moves (report.Started job attempt) p (start_row entry p row) row found refl refl refl) free
report-moves (report.StartFailed job attempt) entry p fit free =
    report-leads (ReportMoves (report.StartFailed job attempt) p) (λ q. may_begin attempt) job unstart_row entry p
    (λ row found may. found-moves (report.StartFailed job attempt) p (unstart_row entry p row) row found refl refl refl) free
report-moves (report.Exited job attempt exit) entry p fit free =
    report-leads (ReportMoves (report.Exited job attempt exit) p) (λ q. may_exit attempt) job (end_row exit) entry p
    (λ row found may. found-moves (report.Exited job attempt exit) p (end_row exit entry p row) row found refl refl refl) free
report-moves (report.ExitUnknown job attempt) entry p fit free =
    report-leads (ReportMoves (report.ExitUnknown job attempt) p) (λ q. may_exit attempt) job lose_row entry p
    (λ row found may. found-moves (report.ExitUnknown job attempt) p (lose_row entry p row) row found refl refl refl) free
report-moves (report.SignalDone job attempt kind) entry p fit free =
    report-leads (ReportMoves (report.SignalDone job attempt kind) p) (may_tell attempt job kind) job (done_row kind) entry p
    (λ row found may. found-moves (report.SignalDone job attempt kind) p (done_row kind entry p row) row found
    (sym (map-same (with_course row.job row.course) p.rows (with_own p.rows row (rising-found p.rows fit.jobs.rising) (own-job job p row found)))) refl refl) free
report-moves (report.SignalFailed job attempt kind) entry p fit free =
    report-leads (ReportMoves (report.SignalFailed job attempt kind) p) (may_tell attempt job kind) job (undone_row kind) entry p
    (λ row found may. found-moves (report.SignalFailed job attempt kind) p (undone_row kind entry p row) row found refl refl refl) free
