-- What a call that is not refused answers, and what it does: GFD.231 (SessionManager, JobSession, Job, JobArray,
-- ReservationSession, Reservation, MonitoringSession), and our profile.
use Rattle.std.specs.Prelude.{ℕ, Bool, ◌+◌, not, ◌&&◌, List, map, filter, Option, Some, None, if◌then◌else◌}
use Rattle.std.specs.Option.{option_map_or}
use Rattle.session_table.specs.Sessions.{Sessions, created, opened, closed, destroyed, home_of, names_of}
use Rattle.drmaa_types.specs.declared.identifiers.JobId.{JobId}
use Rattle.drmaa_types.specs.declared.identifiers.ReservationId.{ReservationId}
use Rattle.drmaa_types.specs.declared.refusals.Refusal.TheVariants.{Timeout}
use Rattle.drmaa_types.specs.declared.sessions.SessionKind.{SessionKind}
use Rattle.drmaa_types.specs.declared.sessions.SessionKind.TheVariants.{Jobs, Reservations, Monitoring}
use Rattle.drmaa_model.specs.declared.calls.Call.{Call}
use Rattle.drmaa_model.specs.declared.calls.Call.TheVariants as call
use Rattle.drmaa_model.specs.declared.calls.Report.TheVariants as report
use Rattle.drmaa_model.specs.declared.replies.Reply.{Reply}
use Rattle.drmaa_model.specs.declared.replies.Reply.TheVariants as reply
use Rattle.drmaa_model.specs.declared.replies.Submitted.{Submitted}
use Rattle.drmaa_model.specs.declared.reservations.Accepted.{Accepted}
use Rattle.drmaa_model.specs.declared.rows.Row.{Row}
use Rattle.drmaa_model.specs.Controlling.{control, reap, is_done}
use Rattle.drmaa_model.specs.Homes.{home_number, own_rows, own_reservations, is_same_home}
use Rattle.drmaa_model.specs.Infos.{info, filtered, numbers, reservation_numbers, reservation_info, machine_info, queue_names}
use Rattle.drmaa_model.specs.Launching.{launch, signal}
use Rattle.drmaa_model.specs.Load.{is_member, reservation_of}
use Rattle.drmaa_model.specs.Operation.{Operation}
use Rattle.drmaa_model.specs.Plan.{Plan}
use Rattle.drmaa_model.specs.Reporting.{report_of}
use Rattle.drmaa_model.specs.Requests.{request, end_reservation}
use Rattle.drmaa_model.specs.Rows.{row_of, state_of}
use Rattle.drmaa_model.specs.Submitting.{submit}
use Rattle.drmaa_model.specs.Waiting.{first_reached, is_timed_out}
use Rattle.drmaa_model.specs.World.{World, counted}

-- What a call comes to: an entry with its reply and the world after it, or no entry.
pub data StepAnswer : Type 0 where
  gives : Reply → World → StepAnswer
  -- there is nothing to hand out
  nothing : StepAnswer
  -- what is waited for has not come
  not_yet : StepAnswer

-- an entry with this reply, which leads to this world
abbrev pub makes : Reply → World → StepAnswer
makes r w = gives r (counted w)

-- a call that an operation on the plan serves, with the reply that it tells
abbrev pub through : {A : Type 0} → (A → Reply) → Operation A → World → StepAnswer
through tell op w = makes (tell (op.told w.plan)) (record w { plan = op.effect (w.entries + 1) w.plan })

-- the same for one that may find nothing
abbrev pub through_some : {A : Type 0} → (A → Reply) → Operation (Option A) → World → StepAnswer
through_some tell op w =
    option_map_or (λ told. makes (tell told) (record w { plan = op.effect (w.entries + 1) w.plan })) (op.told w.plan) nothing

abbrev pub unit : Unit {0} → Reply
unit told = reply.Unit

abbrev pub job_reply : Submitted → Reply
job_reply told = reply.Job told.first

-- the array, its first job, and how many there are
abbrev pub array_reply : Submitted → Reply
array_reply told = option_map_or (λ array. reply.Array array told.first told.count) told.array reply.Unit

-- ---- sessions

-- a new session number, by what it does to the sessions
abbrev pub new_number : Sessions → World → StepAnswer
new_number after w = makes (reply.Session (record { 0 = w.sessions.next_session })) (record w { sessions = after })

-- what belongs to the home of a destroyed session is left without one
abbrev pub left_by : ℕ → Option ℕ → Option ℕ
left_by home own = if is_same_home (Some home) own then None else own

abbrev pub is_forgotten : ℕ → Row → Bool
is_forgotten home row = is_same_home (Some home) row.home && is_done row

-- Its jobs that have ended are forgotten. Its other jobs and its reservations stay.
abbrev pub forget_home : ℕ → Plan → Plan
forget_home home p = record p {
  rows = map (λ (row : Row). record row { home = left_by home row.home }) (filter (λ (row : Row). not (is_forgotten home row)) p.rows);
  reservations = map (λ (a : Accepted). record a { home = left_by home a.home }) p.reservations;
}

abbrev pub destroy : SessionKind → List ℕ → World → World
destroy kind name w = option_map_or (λ (home : ℕ). record w {
  sessions = destroyed home w.sessions;
  plan = forget_home home w.plan;
}) (home_of kind name w.sessions.named) w

-- ---- what is told of a job and of a reservation

abbrev pub info_reply : World → JobId → Reply
info_reply w job = option_map_or (λ (row : Row). reply.Info (info w row)) (row_of job w.plan.rows) reply.Unit

abbrev pub reservation_reply : World → ReservationId → Reply
reservation_reply w number = option_map_or (λ (a : Accepted). reply.Reservation (reservation_info w a)) (reservation_of number w.plan.reservations) reply.Unit

-- the first listed job that has reached the state; a timeout that is over; or nothing as yet
abbrev pub wait_answer : Option ℕ → Bool → World → StepAnswer
wait_answer None over w = if over then makes (reply.Refused Timeout) w else not_yet
wait_answer (Some job) over w = makes (reply.Reached (record { 0 = job })) w

-- Rows, sessions, reservations and orders that a call does not name stay as they are. `at` is the moment that was handed in.
abbrev pub effect : ℕ → World → Call → StepAnswer
effect at w (call.CreateJobSession name) = new_number (created Jobs name w.sessions) w
effect at w (call.CreateReservationSession name) = new_number (created Reservations name w.sessions) w
effect at w (call.OpenJobSession name) = new_number (opened Jobs (home_of Jobs name w.sessions.named) w.sessions) w
effect at w (call.OpenReservationSession name) = new_number (opened Reservations (home_of Reservations name w.sessions.named) w.sessions) w
effect at w (call.DestroyJobSession name) = makes reply.Unit (destroy Jobs name w)
effect at w (call.DestroyReservationSession name) = makes reply.Unit (destroy Reservations name w)
effect at w call.JobSessionNames = makes (reply.Names (names_of Jobs w.sessions.named)) w
effect at w call.ReservationSessionNames = makes (reply.Names (names_of Reservations w.sessions.named)) w
effect at w call.OpenMonitoring = new_number (opened Monitoring None w.sessions) w
effect at w (call.CloseSession session) = makes reply.Unit (record w { sessions = closed session.0 w.sessions })
effect at w (call.RunJob session template) = through job_reply (submit (home_number session w) template None) w
effect at w (call.RunBulk session template indices) = through array_reply (submit (home_number session w) template (Some indices)) w
effect at w (call.GetJobs session f) = makes (reply.Jobs (numbers (filtered w f (own_rows session w)))) w
effect at w (call.GetJobArray session array) = makes (reply.Jobs (numbers (filter (is_member array) (own_rows session w)))) w
effect at w (call.Control session meant what) = through unit (control meant what) w
effect at w (call.Reap session meant) = through unit (reap meant) w
effect at w (call.GetState session job) = makes (reply.State (state_of job w.plan.rows)) w
effect at w (call.GetInfo session job) = makes (info_reply w job) w
effect at w (call.Wait session jobs kind begun timeout) = wait_answer (first_reached kind w.plan.rows jobs) (is_timed_out at begun timeout) w
effect at w (call.RequestReservation session template) = through reply.Reserved (request (home_number session w) template) w
effect at w (call.GetReservation session number) = makes (reservation_reply w number) w
effect at w (call.GetReservations session) = makes (reply.Reservations (reservation_numbers (own_reservations session w))) w
effect at w (call.EndReservation session number) = through unit (end_reservation number) w
effect at w (call.AllJobs session f) = makes (reply.Infos (map (info w) (filtered w f w.plan.rows))) w
effect at w (call.AllReservations session) = makes (reply.ReservationInfos (map (reservation_info w) w.plan.reservations)) w
effect at w (call.AllQueues session) = makes (reply.Names (queue_names w.plan.queues)) w
effect at w (call.AllMachines session) = makes (reply.Machine (machine_info w)) w
effect at w call.Register = makes (reply.Callback (w.registrations + 1)) (record w { registrations = w.registrations + 1 })
effect at w call.TakeLaunch = through_some reply.Launch launch w
effect at w (call.Started job attempt) = through unit (report_of (report.Started job attempt)) w
effect at w (call.StartFailed job attempt) = through unit (report_of (report.StartFailed job attempt)) w
effect at w (call.Exited job attempt exit) = through unit (report_of (report.Exited job attempt exit)) w
effect at w (call.ExitUnknown job attempt) = through unit (report_of (report.ExitUnknown job attempt)) w
effect at w call.TakeSignal = through_some reply.Signal signal w
effect at w (call.SignalDone job attempt kind) = through unit (report_of (report.SignalDone job attempt kind)) w
effect at w (call.SignalFailed job attempt kind) = through unit (report_of (report.SignalFailed job attempt kind)) w
