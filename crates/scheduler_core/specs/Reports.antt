-- What a report is of, when it may come, and what it does to its job, as a move: our profile.
use Rattle.std.specs.Prelude.{ℕ, Bool, ◌&&◌, ◌==◌, List}
use Rattle.std.specs.List.{list_any}
use Rattle.drmaa_types.specs.declared.identifiers.JobId.{JobId}
use Rattle.drmaa_model.specs.declared.calls.Report.{Report}
use Rattle.drmaa_model.specs.declared.calls.Report.TheVariants as report
use Rattle.drmaa_types.specs.declared.states.SignalKind.{SignalKind}
use Rattle.drmaa_model.specs.declared.courses.Course.{Course}
use Rattle.drmaa_model.specs.declared.courses.Order.{Order}
use Rattle.drmaa_model.specs.Courses.{begun, unstarted, exited, lost, signal_failed}
use Rattle.drmaa_model.specs.Reporting.{may_begin, may_exit, is_taken}
use Rattle.plan_book.specs.declared.moves.Booked.{Booked}
use Rattle.plan_book.specs.declared.moves.Booked.TheVariants.{Same, Cancels}
use Rattle.plan_book.specs.declared.moves.Edit.{Edit}
use Rattle.plan_book.specs.declared.moves.Edit.TheVariants.{Keep, Clear, Drop}
use Rattle.plan_book.specs.declared.moves.Move.{Move}
use Rattle.plan_book.specs.declared.rows.Facts.{Facts}

-- the job that it is of
abbrev pub job_of : Report → JobId
job_of (report.Started job attempt) = job
job_of (report.StartFailed job attempt) = job
job_of (report.Exited job attempt exit) = job
job_of (report.ExitUnknown job attempt) = job
job_of (report.SignalDone job attempt kind) = job
job_of (report.SignalFailed job attempt kind) = job

-- a signal may be told of: it is of the last launch, and such an order was handed out
abbrev pub may_tell_of : ℕ → JobId → SignalKind → List Order → Course → Bool
may_tell_of attempt job kind orders course = (course.attempt == attempt) && list_any (is_taken job kind) orders

-- it may come of a job that has this course
abbrev pub may_report : Report → List Order → Course → Bool
may_report (report.Started job attempt) orders course = may_begin attempt course
may_report (report.StartFailed job attempt) orders course = may_begin attempt course
may_report (report.Exited job attempt exit) orders course = may_exit attempt course
may_report (report.ExitUnknown job attempt) orders course = may_exit attempt course
may_report (report.SignalDone job attempt kind) orders course = may_tell_of attempt job kind orders course
may_report (report.SignalFailed job attempt kind) orders course = may_tell_of attempt job kind orders course

-- how its job goes on
abbrev pub after_report : Report → ℕ → Bool → Course → Course
after_report (report.Started job attempt) moment rerunnable course = begun course
after_report (report.StartFailed job attempt) moment rerunnable course = unstarted moment rerunnable course
after_report (report.Exited job attempt exit) moment rerunnable course = exited moment exit rerunnable course
after_report (report.ExitUnknown job attempt) moment rerunnable course = lost moment rerunnable course
after_report (report.SignalDone job attempt kind) moment rerunnable course = course
after_report (report.SignalFailed job attempt kind) moment rerunnable course = signal_failed kind course

-- what becomes of the job's orders
abbrev pub edit_after : Report → Edit
edit_after (report.Started job attempt) = Keep
edit_after (report.StartFailed job attempt) = Clear
edit_after (report.Exited job attempt exit) = Clear
edit_after (report.ExitUnknown job attempt) = Clear
edit_after (report.SignalDone job attempt kind) = Drop kind
edit_after (report.SignalFailed job attempt kind) = Drop kind

-- what becomes of its booking
abbrev pub booked_after : Report → Booked
booked_after (report.Started job attempt) = Same
booked_after (report.StartFailed job attempt) = Cancels
booked_after (report.Exited job attempt exit) = Cancels
booked_after (report.ExitUnknown job attempt) = Cancels
booked_after (report.SignalDone job attempt kind) = Same
booked_after (report.SignalFailed job attempt kind) = Same

abbrev pub report_move : Report → ℕ → Facts → Move
report_move r moment facts = record {
  job = facts.job;
  home = facts.home;
  before = facts.course;
  after = after_report r moment facts.rerunnable facts.course;
  orders = edit_after r;
  booked = booked_after r;
}
