-- When a call is refused, and why: the error conditions of GFD.231, in the order of our profile.
-- A refusal is the first of an ordered table of tests.
use Rattle.std.specs.Prelude.{ℕ, Bool, true, false, not, ◌&&◌, ◌==◌, nat_le, nat_lt, List, [], ◌∷◌, length, Option, Some, None}
use Rattle.std.specs.List.{list_any}
use Rattle.session_table.specs.Sessions.{create_refusal, open_refusal, monitor_refusal, destroy_refusal}
use Rattle.drmaa_types.specs.Refusals.{first_refusal}
use Rattle.drmaa_types.specs.declared.refusals.Refusal.{Refusal}
use Rattle.drmaa_types.specs.declared.refusals.Refusal.TheVariants.{InvalidArgument, OutOfResource, UnsupportedOperation}
use Rattle.drmaa_types.specs.declared.refusals.Which.TheVariants as which
use Rattle.drmaa_types.specs.declared.refusals.Limit.TheVariants as resource
use Rattle.drmaa_types.specs.declared.sessions.SessionKind.TheVariants.{Jobs, Reservations, Monitoring}
use Rattle.drmaa_types.specs.declared.states.Control.{Control}
use Rattle.drmaa_types.specs.declared.states.Control.TheVariants.{Suspend, Resume, Hold, Release, Terminate}
use Rattle.drmaa_model.specs.declared.calls.Call.{Call}
use Rattle.drmaa_model.specs.declared.calls.Call.TheVariants as call
use Rattle.drmaa_model.specs.declared.calls.Report.TheVariants as report
use Rattle.drmaa_model.specs.declared.calls.Target.TheVariants as target
use Rattle.drmaa_model.specs.declared.rows.Row.{Row}
use Rattle.drmaa_model.specs.Controlling.{control_tests, reap_tests}
use Rattle.drmaa_model.specs.Homes.{session_test, own_test, seen_test, reap_test, reapers, reservation_test, own_rows}
use Rattle.drmaa_model.specs.Reporting.{report_of}
use Rattle.drmaa_model.specs.Requests.{request_tests}
use Rattle.drmaa_model.specs.Submitting.{submit_tests}
use Rattle.drmaa_model.specs.Waiting.{most_waited}
use Rattle.drmaa_model.specs.World.{World}

-- the call needs a machine on which jobs can be suspended
abbrev pub is_pausing : Control → Bool
is_pausing Suspend = true
is_pausing Resume = true
is_pausing Hold = false
is_pausing Release = false
is_pausing Terminate = false

-- the most registered callbacks
abbrev pub most_callbacks : ℕ
most_callbacks = 64

-- a listed job is not kept in the named session
abbrev pub lists_other : List ℕ → List Row → Bool
lists_other jobs rows = list_any (λ (job : ℕ). not (list_any (λ (row : Row). row.job.0 == job) rows)) jobs

abbrev pub refusal : World → Call → Option Refusal
refusal w (call.CreateJobSession name) = create_refusal Jobs name w.sessions
refusal w (call.CreateReservationSession name) = create_refusal Reservations name w.sessions
refusal w (call.OpenJobSession name) = open_refusal Jobs name w.sessions
refusal w (call.OpenReservationSession name) = open_refusal Reservations name w.sessions
refusal w (call.DestroyJobSession name) = destroy_refusal Jobs name w.sessions
refusal w (call.DestroyReservationSession name) = destroy_refusal Reservations name w.sessions
refusal w call.JobSessionNames = None
refusal w call.ReservationSessionNames = None
refusal w call.OpenMonitoring = monitor_refusal w.sessions
refusal w (call.CloseSession session) = first_refusal (session_test (Jobs ∷ Reservations ∷ Monitoring ∷ []) session w ∷ [])
refusal w (call.RunJob session template) = first_refusal (session_test (Jobs ∷ []) session w ∷ submit_tests template None w.plan)
refusal w (call.RunBulk session template indices) = first_refusal (session_test (Jobs ∷ []) session w ∷ submit_tests template (Some indices) w.plan)
refusal w (call.GetJobs session filter) = first_refusal (session_test (Jobs ∷ []) session w ∷ [])
refusal w (call.GetJobArray session array) = first_refusal (session_test (Jobs ∷ []) session w ∷ own_test session (target.Array array) w ∷ [])
refusal w (call.Control session meant what) = first_refusal (
    session_test (Jobs ∷ []) session w ∷
    own_test session meant w ∷
    (is_pausing what && not w.config.suspend, UnsupportedOperation) ∷
    control_tests meant what w.plan)
refusal w (call.Reap session meant) = first_refusal (session_test (reapers meant) session w ∷ reap_test session meant w ∷ reap_tests meant w.plan)
refusal w (call.GetState session job) = first_refusal (session_test (Jobs ∷ Monitoring ∷ []) session w ∷ seen_test session job w ∷ [])
refusal w (call.GetInfo session job) = first_refusal (session_test (Jobs ∷ Monitoring ∷ []) session w ∷ seen_test session job w ∷ [])
refusal w (call.Wait session jobs kind begun timeout) = first_refusal (
    session_test (Jobs ∷ []) session w ∷
    (length jobs == 0, InvalidArgument which.Jobs) ∷
    (nat_lt most_waited (length jobs), OutOfResource resource.WaitList) ∷
    (lists_other jobs (own_rows session w), InvalidArgument which.Job) ∷ [])
refusal w (call.RequestReservation session template) = first_refusal (session_test (Reservations ∷ []) session w ∷ request_tests template w.plan)
refusal w (call.GetReservation session number) = first_refusal (session_test (Reservations ∷ []) session w ∷ reservation_test session number w ∷ [])
refusal w (call.GetReservations session) = first_refusal (session_test (Reservations ∷ []) session w ∷ [])
refusal w (call.EndReservation session number) = first_refusal (session_test (Reservations ∷ []) session w ∷ reservation_test session number w ∷ [])
refusal w (call.AllJobs session filter) = first_refusal (session_test (Monitoring ∷ []) session w ∷ [])
refusal w (call.AllReservations session) = first_refusal (session_test (Monitoring ∷ []) session w ∷ [])
refusal w (call.AllQueues session) = first_refusal (session_test (Monitoring ∷ []) session w ∷ [])
refusal w (call.AllMachines session) = first_refusal (session_test (Monitoring ∷ []) session w ∷ [])
refusal w call.Register = first_refusal ((nat_le most_callbacks w.registrations, OutOfResource resource.Callbacks) ∷ [])
refusal w call.TakeLaunch = None
refusal w (call.Started job attempt) = (report_of (report.Started job attempt)).refusal w.plan
refusal w (call.StartFailed job attempt) = (report_of (report.StartFailed job attempt)).refusal w.plan
refusal w (call.Exited job attempt exit) = (report_of (report.Exited job attempt exit)).refusal w.plan
refusal w (call.ExitUnknown job attempt) = (report_of (report.ExitUnknown job attempt)).refusal w.plan
refusal w call.TakeSignal = None
refusal w (call.SignalDone job attempt kind) = (report_of (report.SignalDone job attempt kind)).refusal w.plan
refusal w (call.SignalFailed job attempt kind) = (report_of (report.SignalFailed job attempt kind)).refusal w.plan
