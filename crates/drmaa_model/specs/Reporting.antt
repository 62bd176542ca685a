-- What launcher and reaper report: our profile.
use Rattle.std.specs.Prelude.{ℕ, Bool, true, false, not, ◌&&◌, ◌==◌, List, [], ◌∷◌, filter, is_some, if◌then◌else◌}
use Rattle.std.specs.List.{list_any}
use Rattle.std.specs.Option.{option_map_or}
use Rattle.drmaa_types.specs.Refusals.{first_refusal}
use Rattle.drmaa_types.specs.declared.identifiers.JobId.{JobId}
use Rattle.drmaa_types.specs.declared.refusals.Refusal.{Refusal}
use Rattle.drmaa_types.specs.declared.refusals.Refusal.TheVariants.{InvalidArgument, InvalidState}
use Rattle.drmaa_types.specs.declared.refusals.Which.TheVariants as which
use Rattle.drmaa_types.specs.declared.states.Exit.{Exit}
use Rattle.drmaa_types.specs.declared.states.SignalKind.{SignalKind}
use Rattle.drmaa_types.specs.declared.states.SignalKind.TheVariants.{Stop, Cont, Kill}
use Rattle.drmaa_model.specs.declared.calls.Report.{Report}
use Rattle.drmaa_model.specs.declared.calls.Report.TheVariants as report
use Rattle.drmaa_model.specs.declared.courses.Course.{Course}
use Rattle.drmaa_model.specs.declared.courses.Order.{Order}
use Rattle.drmaa_model.specs.declared.courses.Phase.{Phase}
use Rattle.drmaa_model.specs.declared.courses.Phase.TheVariants.{Idle, Launching, Alive}
use Rattle.drmaa_model.specs.declared.rows.Row.{Row}
use Rattle.drmaa_model.specs.Courses.{begun, unstarted, exited, lost, signal_failed}
use Rattle.drmaa_model.specs.Operation.{Operation}
use Rattle.drmaa_model.specs.Plan.{Plan}
use Rattle.drmaa_model.specs.Rows.{row_of, state_of, go_on}

-- ---- when a report is refused

abbrev pub is_idle : Phase → Bool
is_idle Idle = true
is_idle Launching = false
is_idle Alive = false

abbrev pub is_launching : Phase → Bool
is_launching Idle = false
is_launching Launching = true
is_launching Alive = false

-- a report of a start, and one of an end, may come: it is of the last launch, and the job is in that phase
abbrev pub may_begin : ℕ → Course → Bool
may_begin attempt course = is_launching course.phase && (course.attempt == attempt)

abbrev pub may_exit : ℕ → Course → Bool
may_exit attempt course = not (is_idle course.phase) && (course.attempt == attempt)

abbrev pub signal_number : SignalKind → ℕ
signal_number Stop = 0
signal_number Cont = 1
signal_number Kill = 2

-- the order is for this job, of this kind, and taken
abbrev pub is_taken : JobId → SignalKind → Order → Bool
is_taken job kind order = order.taken && (order.job.0 == job.0) && (signal_number order.kind == signal_number kind)

-- a report of a signal may come: it is of the last launch, and such an order is taken
abbrev pub may_tell : ℕ → JobId → SignalKind → Plan → Course → Bool
may_tell attempt job kind p course = (course.attempt == attempt) && list_any (is_taken job kind) p.orders

abbrev pub report_tests : (Course → Bool) → JobId → Plan → List (Bool × Refusal)
report_tests test job p =
    (not (is_some (row_of job p.rows)), InvalidArgument which.Job) ∷
    (not (option_map_or (λ (row : Row). test row.course) (row_of job p.rows) false), InvalidState (state_of job p.rows)) ∷ []

-- ---- what a report leads to

-- the signals that are not for this job
abbrev pub orders_without : JobId → List Order → List Order
orders_without job orders = filter (λ (order : Order). not (order.job.0 == job.0)) orders

-- without the first order that meets the test
abbrev pub drop_first : (Order → Bool) → List Order → List Order
drop_first test [] = []
drop_first test (order ∷ orders) = if test order then orders else order ∷ drop_first test orders

abbrev pub start_row : ℕ → Plan → Row → Plan
start_row entry p row = go_on entry row.job (begun row.course) p

-- a run is over: the job goes on by this course, and its orders are removed
abbrev pub over_row : Course → ℕ → Plan → Row → Plan
over_row course entry p row = record (go_on entry row.job course p) { orders = orders_without row.job p.orders }

abbrev pub unstart_row : ℕ → Plan → Row → Plan
unstart_row entry p row = over_row (unstarted p.moment row.wants.rerunnable row.course) entry p row

abbrev pub end_row : Exit → ℕ → Plan → Row → Plan
end_row exit entry p row = over_row (exited p.moment exit row.wants.rerunnable row.course) entry p row

abbrev pub lose_row : ℕ → Plan → Row → Plan
lose_row entry p row = over_row (lost p.moment row.wants.rerunnable row.course) entry p row

-- an order was carried out: it is removed
abbrev pub done_row : SignalKind → ℕ → Plan → Row → Plan
done_row kind entry p row = record p { orders = drop_first (is_taken row.job kind) p.orders }

-- an order could not be carried out: it is removed, and the job keeps that in mind
abbrev pub undone_row : SignalKind → ℕ → Plan → Row → Plan
undone_row kind entry p row = record (go_on entry row.job (signal_failed kind row.course) p) { orders = drop_first (is_taken row.job kind) p.orders }

-- ---- the reports

abbrev pub reported : (Plan → Course → Bool) → JobId → (ℕ → Plan → Row → Plan) → Operation (Unit {0})
reported test job effect = record {
  refusal = λ p. first_refusal (report_tests (test p) job p);
  told = λ p. tt;
  effect = λ entry p. option_map_or (effect entry p) (row_of job p.rows) p;
}

abbrev pub report_of : Report → Operation (Unit {0})
report_of (report.Started job attempt) = reported (λ p. may_begin attempt) job start_row
report_of (report.StartFailed job attempt) = reported (λ p. may_begin attempt) job unstart_row
report_of (report.Exited job attempt exit) = reported (λ p. may_exit attempt) job (end_row exit)
report_of (report.ExitUnknown job attempt) = reported (λ p. may_exit attempt) job lose_row
report_of (report.SignalDone job attempt kind) = reported (may_tell attempt job kind) job (done_row kind)
report_of (report.SignalFailed job attempt kind) = reported (may_tell attempt job kind) job (undone_row kind)
