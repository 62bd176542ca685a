-- What one call does to one job, and to nothing else: our profile.
use Rattle.std.specs.Prelude.{◌≡◌, ℕ, map, Some}
use Rattle.drmaa_types.specs.declared.identifiers.JobId.{JobId}
use Rattle.drmaa_model.specs.declared.calls.Report.{Report}
use Rattle.drmaa_model.specs.declared.calls.Report.TheVariants as report
use Rattle.drmaa_model.specs.declared.courses.Course.{Course}
use Rattle.drmaa_model.specs.declared.rows.Row.{Row}
use Rattle.drmaa_model.specs.Courses.{begun, unstarted, exited, lost, signal_failed}
use Rattle.drmaa_model.specs.Plan.{Plan}
use Rattle.drmaa_model.specs.Rows.{row_of, with_course}

-- One job goes on by this course. The other jobs, the reservations and the moment stay as they are.
pub record MovesOne (p q : Plan) (row : Row) (course : Course) : Type 0 where
  pub found : row_of row.job p.rows ≡ Some row
  pub rows : q.rows ≡ map (with_course row.job course) p.rows
  pub reservations : q.reservations ≡ p.reservations
  pub moment : q.moment ≡ p.moment

-- the job that a report is of
abbrev pub job_of : Report → JobId
job_of (report.Started job attempt) = job
job_of (report.StartFailed job attempt) = job
job_of (report.Exited job attempt exit) = job
job_of (report.ExitUnknown job attempt) = job
job_of (report.SignalDone job attempt kind) = job
job_of (report.SignalFailed job attempt kind) = job

-- the course by which it goes on
abbrev pub course_after : ℕ → Report → Row → Course
course_after moment (report.Started job attempt) row = begun row.course
course_after moment (report.StartFailed job attempt) row = unstarted moment row.wants.rerunnable row.course
course_after moment (report.Exited job attempt exit) row = exited moment exit row.wants.rerunnable row.course
course_after moment (report.ExitUnknown job attempt) row = lost moment row.wants.rerunnable row.course
course_after moment (report.SignalDone job attempt kind) row = row.course
course_after moment (report.SignalFailed job attempt kind) row = signal_failed kind row.course

-- A report that is accepted moves the job that it is of.
pub record ReportMoves (r : Report) (p q : Plan) : Type 0 where
  pub row : Row
  pub number : row.job ≡ job_of r
  pub moves : MovesOne p q row (course_after p.moment r row)
