-- What the machine answers may stand in a journal.
use Rattle.std.proofs.Common.{◌≡◌, ℕ, ◌+◌, ◌==◌, Bool, true, false, cond, ◌&&◌, ◌||◌, List, [], ◌∷◌, ◌++◌, length, not, is_some, nat_le, nat_lt, Option, Some, None, refl, ap, subst, ◌∙◌}
use Rattle.std.specs.List.{list_all}
use Rattle.std.specs.Map.{lookup}
use Rattle.std.specs.Option.{option_map_or}
use Rattle.std.specs.Str.{bytes_eq}
use Rattle.drmaa_types.specs.Refusals.{first_refusal}
use Rattle.session_table.specs.Sessions.{is_bad_name, in_use, most_sessions}
use Rattle.drmaa_types.specs.declared.identifiers.JobId.{JobId}
use Rattle.drmaa_types.specs.declared.identifiers.ReservationId.{ReservationId}
use Rattle.drmaa_types.specs.declared.identifiers.SessionId.{SessionId}
use Rattle.drmaa_types.specs.declared.queues.QueueSpec.{QueueSpec}
use Rattle.drmaa_types.specs.declared.refusals.Attribute.{Attribute}
use Rattle.drmaa_types.specs.declared.refusals.Refusal.{Refusal}
use Rattle.drmaa_types.specs.declared.refusals.Refusal.TheVariants.{InvalidArgument, UnsupportedAttribute, UnsupportedOperation, OutOfResource, DeniedByDrms}
use Rattle.drmaa_types.specs.declared.refusals.Which.TheVariants as which
use Rattle.drmaa_types.specs.declared.refusals.Limit.TheVariants as resource
use Rattle.drmaa_types.specs.declared.sessions.SessionKind.TheVariants.{Jobs, Reservations, Monitoring}
use Rattle.job_template.specs.declared.templates.JobTemplate.{JobTemplate}
use Rattle.job_template.specs.declared.templates.ReservationTemplate.{ReservationTemplate}
use Rattle.drmaa_types.specs.declared.template_parts.ResourceLimit.{ResourceLimit}
use Rattle.job_template.specs.Frames.{frame_of, name_tests, start_tests, length_tests, frame_tests}
use Rattle.job_template.specs.Frames as frames
use Rattle.job_template.specs.JobTests.{command_tests, path_tests, slot_tests, limit_tests, job_tests}
use Rattle.job_template.specs.Unsupported.{other_tests, other_limits, other_limit}
use Rattle.job_template.specs.Wants.{is_wallclock, min_slots}
use Rattle.drmaa_model.specs.declared.calls.Call.{Call}
use Rattle.drmaa_model.specs.declared.calls.Call.TheVariants as call
use Rattle.drmaa_model.specs.declared.calls.Indices.{Indices}
use Rattle.drmaa_model.specs.declared.calls.Target.{Target}
use Rattle.drmaa_model.specs.declared.calls.Target.TheVariants as target
use Rattle.drmaa_model.specs.declared.replies.Reply.{Reply}
use Rattle.drmaa_model.specs.declared.replies.Reply.TheVariants as reply
use Rattle.drmaa_model.specs.AnswerLaws.{answer-cases, some-cases}
use Rattle.drmaa_model.specs.Effects.{StepAnswer, gives, nothing, not_yet, effect, info_reply, reservation_reply, wait_answer}
use Rattle.drmaa_model.specs.Homes.{session_test, own_test, seen_test, reap_test, reapers, reservation_test, own_rows}
use Rattle.drmaa_model.specs.Controlling.{control_tests, reap_tests}
use Rattle.drmaa_model.specs.Infos.{info, reservation_info}
use Rattle.drmaa_model.specs.Launching.{launch, signal}
use Rattle.drmaa_model.specs.Load.{reservation_of}
use Rattle.drmaa_model.specs.Plan.{Plan}
use Rattle.drmaa_model.specs.Refusals.{refusal, is_pausing, most_callbacks, lists_other}
use Rattle.drmaa_model.specs.Requests.{request_tests, most_reservations, start_in, denied_at}
use Rattle.drmaa_model.specs.Rows.{row_of}
use Rattle.drmaa_model.specs.Steps.{answer}
use Rattle.drmaa_model.specs.Submitting.{bulk_tests, submit_tests, room_tests, members, names_none, named_slots}
use Rattle.drmaa_model.specs.Time.{advance}
use Rattle.drmaa_model.specs.Reporting.{report_tests, may_begin, may_exit, may_tell}
use Rattle.drmaa_model.specs.Waiting.{first_reached, is_timed_out, most_waited}
use Rattle.drmaa_model.specs.World.{World}
use Rattle.drmaa_model.specs.declared.reservations.Accepted.{Accepted}
use Rattle.drmaa_model.specs.declared.rows.Row.{Row}
use Rattle.text_forms.specs.Refusals.{may_stand}
use Rattle.journal_forms.specs.Replies.{may_answer}

-- ---- tables of refusals

-- each refusal of the table may stand in a journal
stands : List (Bool × Refusal) → Bool
stands rows = list_all (λ (row : Bool × Refusal). may_stand row.1) rows

both : (xs ys : List (Bool × Refusal)) → stands xs ≡ true → stands ys ≡ true → stands (xs ++ ys) ≡ true
unfolding stands
both [] ys a b = b
both (x ∷ xs) ys a b =
    (elim (may_stand x.1) as (λ t. (t && stands xs) ≡ true → (t && stands (xs ++ ys)) ≡ true) [
      | true ↦ λ h. both xs ys h b
      | false ↦ λ h. absurd (cc)
    ]) a

-- then so may the first that holds
first-stands : (rows : List (Bool × Refusal)) (why : Refusal) → first_refusal rows ≡ Some why → stands rows ≡ true → may_stand why ≡ true
unfolding stands
first-stands [] why is all = absurd (cc)
first-stands ((b, r) ∷ rows) why is all =
    (elim (may_stand r) as (λ t. may_stand r ≡ t → (t && stands rows) ≡ true → may_stand why ≡ true) [
      | false ↦ λ e h. absurd (cc)
      | true ↦ λ e h.
          (elim b as (λ c. cond c (Some r) (first_refusal rows) ≡ Some why → may_stand why ≡ true) [
            | true ↦ λ same. (let eq : r ≡ why = cc in subst (λ (x : Refusal). may_stand x ≡ true) eq e)
            | false ↦ λ same. first-stands rows why same h
          ]) is
    ]) refl all

others-stand : (others : List Attribute) → stands (other_tests others) ≡ true
unfolding stands
others-stand [] = refl
others-stand (a ∷ others) = others-stand others

limit-stands : (name : List ℕ) → may_stand (other_limit name) ≡ true
limit-stands name =
    elim (lookup (bytes_eq name) other_limits) as (λ o. may_stand (option_map_or UnsupportedAttribute o (InvalidArgument which.ResourceLimits)) ≡ true) [
      | None ↦ refl
      | Some a ↦ refl
    ]

limits-stand : (given : Bool) (limits : List ResourceLimit) → stands (limit_tests given limits) ≡ true
unfolding stands
limits-stand given [] = refl
limits-stand given (l ∷ ls) = ap (λ t. t && stands (limit_tests (given || is_wallclock l) ls)) (limit-stands l.name) ∙ limits-stand (given || is_wallclock l) ls

slots-stand : (slots : ℕ) (queues : List QueueSpec) (now : ℕ) (t : JobTemplate) → stands (command_tests t ++ path_tests queues t ++ slot_tests slots queues now t) ≡ true
unfolding stands
slots-stand slots [] now t = refl
slots-stand slots (first ∷ others) now t = refl

job-stands : (slots : ℕ) (queues : List QueueSpec) (now : ℕ) (t : JobTemplate) → stands (job_tests slots queues now t) ≡ true
unfolding stands
job-stands slots queues now t =
    both (command_tests t ++ path_tests queues t ++ slot_tests slots queues now t ++ limit_tests false t.resource_limits) (other_tests t.others)
    (both (command_tests t ++ path_tests queues t ++ slot_tests slots queues now t) (limit_tests false t.resource_limits) (slots-stand slots queues now t) (limits-stand false t.resource_limits))
    (others-stand t.others)

bulk-stands : (indices : Option Indices) → stands (bulk_tests indices) ≡ true
unfolding stands
bulk-stands None = refl
bulk-stands (Some i) = refl

-- what is tested behind the template itself
tail_tests : JobTemplate → Option Indices → Plan → List (Bool × Refusal)
tail_tests t indices p =
    (names_none t p, InvalidArgument which.Reservation) ∷
    (option_map_or (λ (slots : ℕ). nat_lt slots (min_slots t)) (named_slots t p) false, InvalidArgument which.MinSlots) ∷
    room_tests (members t indices p) p

booking_tests : ReservationTemplate → Plan → List (Bool × Refusal)
booking_tests t p =
    (nat_le most_reservations (length p.reservations), OutOfResource resource.Reservations) ∷
    (not (is_some (start_in (frame_of p.moment t) p)), DeniedByDrms (denied_at t p)) ∷ []

submit-stands : (t : JobTemplate) (indices : Option Indices) (p : Plan) → stands (submit_tests t indices p) ≡ true
unfolding stands tail_tests
submit-stands t indices p =
    both (bulk_tests indices ++ job_tests p.total p.queues p.moment t) (tail_tests t indices p)
    (both (bulk_tests indices) (job_tests p.total p.queues p.moment t) (bulk-stands indices) (job-stands p.total p.queues p.moment t))
    refl

frame-stands : (now : ℕ) (t : ReservationTemplate) → stands (frame_tests now t) ≡ true
unfolding stands
frame-stands now t =
    both (name_tests t ++ start_tests now t (frame_of now t) ++ length_tests t (frame_of now t) ++ frames.slot_tests (frame_of now t).min (frame_of now t).max) (other_tests t.others) refl (others-stand t.others)

request-stands : (t : ReservationTemplate) (p : Plan) → stands (request_tests t p) ≡ true
unfolding stands booking_tests
request-stands t p = both (frame_tests p.moment t) (booking_tests t p) (frame-stands p.moment t) refl

-- ---- the tables of all calls

-- a table whose refusals may all stand, as an equation
Safe : Option Refusal → Type 0
Safe o = (why : Refusal) → o ≡ Some why → may_stand why ≡ true

safe : (rows : List (Bool × Refusal)) → stands rows ≡ true → Safe (first_refusal rows)
unfolding Safe
safe rows all = λ why is. first-stands rows why is all

reap-stands : (w : World) (session : SessionId) (meant : Target) → Safe (refusal w (call.Reap session meant))
unfolding Safe stands
reap-stands w session (target.Job job) = safe (session_test (reapers (target.Job job)) session w ∷ reap_test session (target.Job job) w ∷ reap_tests (target.Job job) w.plan) refl
reap-stands w session (target.Array array) = safe (session_test (reapers (target.Array array)) session w ∷ reap_test session (target.Array array) w ∷ reap_tests (target.Array array) w.plan) refl

refusal-stands : (w : World) (c : Call) → Safe (refusal w c)
unfolding Safe stands
refusal-stands w (call.CreateJobSession name) = safe ((is_bad_name Jobs name w.sessions.named, InvalidArgument which.SessionName) ∷ (nat_le most_sessions (length w.sessions.named), OutOfResource resource.Sessions) ∷ (nat_le most_sessions (length w.sessions.valid), OutOfResource resource.OpenSessions) ∷ []) refl
refusal-stands w (call.CreateReservationSession name) = safe ((is_bad_name Reservations name w.sessions.named, InvalidArgument which.SessionName) ∷ (nat_le most_sessions (length w.sessions.named), OutOfResource resource.Sessions) ∷ (nat_le most_sessions (length w.sessions.valid), OutOfResource resource.OpenSessions) ∷ []) refl
refusal-stands w (call.OpenJobSession name) = safe ((not (in_use Jobs name w.sessions.named), InvalidArgument which.SessionName) ∷ (nat_le most_sessions (length w.sessions.valid), OutOfResource resource.OpenSessions) ∷ []) refl
refusal-stands w (call.OpenReservationSession name) = safe ((not (in_use Reservations name w.sessions.named), InvalidArgument which.SessionName) ∷ (nat_le most_sessions (length w.sessions.valid), OutOfResource resource.OpenSessions) ∷ []) refl
refusal-stands w (call.DestroyJobSession name) = safe ((not (in_use Jobs name w.sessions.named), InvalidArgument which.SessionName) ∷ []) refl
refusal-stands w (call.DestroyReservationSession name) = safe ((not (in_use Reservations name w.sessions.named), InvalidArgument which.SessionName) ∷ []) refl
refusal-stands w call.JobSessionNames = λ why is. absurd (cc)
refusal-stands w call.ReservationSessionNames = λ why is. absurd (cc)
refusal-stands w call.OpenMonitoring = safe ((nat_le most_sessions (length w.sessions.valid), OutOfResource resource.OpenSessions) ∷ []) refl
refusal-stands w (call.CloseSession session) = safe (session_test (Jobs ∷ Reservations ∷ Monitoring ∷ []) session w ∷ []) refl
refusal-stands w (call.RunJob session t) = safe (session_test (Jobs ∷ []) session w ∷ submit_tests t None w.plan) (submit-stands t None w.plan)
refusal-stands w (call.RunBulk session t indices) = safe (session_test (Jobs ∷ []) session w ∷ submit_tests t (Some indices) w.plan) (submit-stands t (Some indices) w.plan)
refusal-stands w (call.GetJobs session f) = safe (session_test (Jobs ∷ []) session w ∷ []) refl
refusal-stands w (call.GetJobArray session array) = safe (session_test (Jobs ∷ []) session w ∷ own_test session (target.Array array) w ∷ []) refl
refusal-stands w (call.Control session meant what) = safe (session_test (Jobs ∷ []) session w ∷ own_test session meant w ∷ (is_pausing what && not w.config.suspend, UnsupportedOperation) ∷ control_tests meant what w.plan) refl
refusal-stands w (call.Reap session meant) = reap-stands w session meant
refusal-stands w (call.GetState session job) = safe (session_test (Jobs ∷ Monitoring ∷ []) session w ∷ seen_test session job w ∷ []) refl
refusal-stands w (call.GetInfo session job) = safe (session_test (Jobs ∷ Monitoring ∷ []) session w ∷ seen_test session job w ∷ []) refl
refusal-stands w (call.Wait session listed kind begun timeout) = safe (session_test (Jobs ∷ []) session w ∷ (length listed == 0, InvalidArgument which.Jobs) ∷ (nat_lt most_waited (length listed), OutOfResource resource.WaitList) ∷ (lists_other listed (own_rows session w), InvalidArgument which.Job) ∷ []) refl
refusal-stands w (call.RequestReservation session t) = safe (session_test (Reservations ∷ []) session w ∷ request_tests t w.plan) (request-stands t w.plan)
refusal-stands w (call.GetReservation session number) = safe (session_test (Reservations ∷ []) session w ∷ reservation_test session number w ∷ []) refl
refusal-stands w (call.GetReservations session) = safe (session_test (Reservations ∷ []) session w ∷ []) refl
refusal-stands w (call.EndReservation session number) = safe (session_test (Reservations ∷ []) session w ∷ reservation_test session number w ∷ []) refl
refusal-stands w (call.AllJobs session f) = safe (session_test (Monitoring ∷ []) session w ∷ []) refl
refusal-stands w (call.AllReservations session) = safe (session_test (Monitoring ∷ []) session w ∷ []) refl
refusal-stands w (call.AllQueues session) = safe (session_test (Monitoring ∷ []) session w ∷ []) refl
refusal-stands w (call.AllMachines session) = safe (session_test (Monitoring ∷ []) session w ∷ []) refl
refusal-stands w call.Register = safe ((nat_le most_callbacks w.registrations, OutOfResource resource.Callbacks) ∷ []) refl
refusal-stands w call.TakeLaunch = λ why is. absurd (cc)
refusal-stands w (call.Started job attempt) = safe (report_tests (may_begin attempt) job w.plan) refl
refusal-stands w (call.StartFailed job attempt) = safe (report_tests (may_begin attempt) job w.plan) refl
refusal-stands w (call.Exited job attempt exit) = safe (report_tests (may_exit attempt) job w.plan) refl
refusal-stands w (call.ExitUnknown job attempt) = safe (report_tests (may_exit attempt) job w.plan) refl
refusal-stands w call.TakeSignal = λ why is. absurd (cc)
refusal-stands w (call.SignalDone job attempt kind) = safe (report_tests (may_tell attempt job kind w.plan) job w.plan) refl
refusal-stands w (call.SignalFailed job attempt kind) = safe (report_tests (may_tell attempt job kind w.plan) job w.plan) refl

-- ---- what is answered

-- the reply of an answer, if it has one, may stand in a journal
Stands : StepAnswer → Type 0
Stands (gives r next) = may_answer r ≡ true
Stands nothing = Unit {0}
Stands not_yet = Unit {0}

wait-stands : (first : Option ℕ) (over : Bool) (w : World) → Stands (wait_answer first over w)
unfolding Stands
wait-stands None true w = refl
wait-stands None false w = tt
wait-stands (Some job) over w = refl

info-stands : (w : World) (job : JobId) → may_answer (info_reply w job) ≡ true
info-stands w job =
    elim (row_of job w.plan.rows) as (λ o. may_answer (option_map_or (λ (row : Row). reply.Info (info w row)) o reply.Unit) ≡ true) [
      | None ↦ refl
      | Some row ↦ refl
    ]

reservation-stands : (w : World) (number : ReservationId) → may_answer (reservation_reply w number) ≡ true
reservation-stands w number =
    elim (reservation_of number w.plan.reservations) as (λ o. may_answer (option_map_or (λ (a : Accepted). reply.Reservation (reservation_info w a)) o reply.Unit) ≡ true) [
      | None ↦ refl
      | Some a ↦ refl
    ]

effect-stands : (at : ℕ) (w : World) (c : Call) → Stands (effect at w c)
unfolding Stands
effect-stands at w (call.GetInfo session job) = info-stands w job
effect-stands at w (call.Wait session listed kind begun timeout) = wait-stands (first_reached kind w.plan.rows listed) (is_timed_out at begun timeout) w
effect-stands at w (call.GetReservation session number) = reservation-stands w number
effect-stands at w call.TakeLaunch = some-cases Stands reply.Launch launch w tt (λ told. refl)
effect-stands at w call.TakeSignal = some-cases Stands reply.Signal signal w tt (λ told. refl)
effect-stands at w _ = refl

-- The reply of a step may stand in a journal.
pub answer-stands : (w : World) (at : ℕ) (c : Call) (r : Reply) (next : World) → answer w at c ≡ gives r next → may_answer r ≡ true
unfolding Stands Safe
answer-stands w at c r next is =
    let told : Stands (answer w at c) = answer-cases at (advance w at) c Stands (λ why e. refusal-stands (advance w at) c why e) (λ free. effect-stands at (advance w at) c) in
    subst Stands is told
