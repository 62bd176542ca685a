-- Which call brings a report, and which reports were promised the memory for their entry.
use Rattle.std.specs.Prelude.{Bool, false, List}
use Rattle.std.specs.Option.{option_map_or}
use Rattle.drmaa_types.specs.declared.identifiers.JobId.{JobId}
use Rattle.drmaa_model.specs.declared.calls.Call.{Call}
use Rattle.drmaa_model.specs.declared.calls.Call.TheVariants as call
use Rattle.drmaa_model.specs.declared.calls.Report.{Report}
use Rattle.drmaa_model.specs.declared.calls.Report.TheVariants as report
use Rattle.drmaa_model.specs.declared.courses.Course.{Course}
use Rattle.drmaa_model.specs.declared.rows.Row.{Row}
use Rattle.drmaa_model.specs.Reporting.{may_begin, may_exit}
use Rattle.drmaa_model.specs.Rows.{row_of}

abbrev pub call_of : Report → Call
call_of (report.Started job attempt) = call.Started job attempt
call_of (report.StartFailed job attempt) = call.StartFailed job attempt
call_of (report.Exited job attempt exit) = call.Exited job attempt exit
call_of (report.ExitUnknown job attempt) = call.ExitUnknown job attempt
call_of (report.SignalDone job attempt kind) = call.SignalDone job attempt kind
call_of (report.SignalFailed job attempt kind) = call.SignalFailed job attempt kind

-- a job is kept, and its course meets a test
abbrev pub has_course : (Course → Bool) → JobId → List Row → Bool
has_course test job rows = option_map_or (λ (row : Row). test row.course) (row_of job rows) false

-- The report is of a start or of an end, and may come of its job: the memory for its entry was taken with the launch.
abbrev pub is_promised : Report → List Row → Bool
is_promised (report.Started job attempt) rows = has_course (may_begin attempt) job rows
is_promised (report.StartFailed job attempt) rows = has_course (may_begin attempt) job rows
is_promised (report.Exited job attempt exit) rows = has_course (may_exit attempt) job rows
is_promised (report.ExitUnknown job attempt) rows = has_course (may_exit attempt) job rows
is_promised (report.SignalDone job attempt kind) rows = false
is_promised (report.SignalFailed job attempt kind) rows = false
