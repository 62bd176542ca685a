-- Submissions, and requests for reservations: the test that comes before those of the core, and what it leaves to it.
use Rattle.std.proofs.Common.{◌≡◌, ℕ, ◌≤◌, true, [], ◌∷◌, Option, Some, None, refl, sym, subst, arith}
use Rattle.std.specs.Prelude.{Err}
use Rattle.drmaa_types.specs.Refusals.{first_refusal}
use Rattle.drmaa_types.specs.RefusalLaws.{refused_first, passed_first}
use Rattle.drmaa_types.specs.declared.identifiers.SessionId.{SessionId}
use Rattle.drmaa_types.specs.declared.refusals.Refusal.{Refusal}
use Rattle.drmaa_types.specs.declared.sessions.SessionKind.TheVariants.{Jobs, Reservations}
use Rattle.job_template.specs.declared.templates.JobTemplate.{JobTemplate}
use Rattle.job_template.specs.declared.templates.ReservationTemplate.{ReservationTemplate}
use Rattle.drmaa_model.specs.declared.calls.Call.TheVariants as call
use Rattle.drmaa_model.specs.declared.calls.Indices.{Indices}
use Rattle.drmaa_model.specs.declared.faults.NoEntry.TheVariants as fault
use Rattle.drmaa_model.specs.declared.replies.Reply.TheVariants as reply
use Rattle.drmaa_model.specs.Fit.{IsFit}
use Rattle.drmaa_model.specs.Homes.{home_number, session_test}
use Rattle.drmaa_model.specs.Operation.{outcome}
use Rattle.drmaa_model.specs.Plan.{Plan}
use Rattle.drmaa_model.specs.Refusals.{refusal}
use Rattle.drmaa_model.specs.Requests.{request, request_tests}
use Rattle.drmaa_model.specs.Submitting.{members, new_rows, submit, submit_tests}
use Rattle.drmaa_model.specs.Time.{advance}
use Rattle.drmaa_model.specs.World.{World}
use Rattle.scheduler_core.specs.Facts.{reports_to_come}
use Rattle.machine_calls.specs.Runs.{run_call, told_of}
use Rattle.machine_calls.specs.Serving.{Comes, is_sized_first}
use Rattle.machine_calls.specs.Serving.Comes.{is_short}
use Rattle.machine_calls.proofs.Dues.{due-append, new-due}
use Rattle.machine_calls.proofs.Outcomes.{outcome-due}
use Rattle.machine_calls.proofs.Through.{IsThrough, through-answer}

pub run-first : (session : SessionId) (t : JobTemplate) (indices : Option Indices) (v : World) (why : Refusal)
    → first_refusal (session_test (Jobs ∷ []) session v ∷ []) ≡ Some why → refusal v (run_call session t indices) ≡ Some why
run-first session t None v why is = refused_first (session_test (Jobs ∷ []) session v ∷ []) (submit_tests t None v.plan) why is
run-first session t (Some i) v why is = refused_first (session_test (Jobs ∷ []) session v ∷ []) (submit_tests t (Some i) v.plan) why is

run-own : (session : SessionId) (t : JobTemplate) (indices : Option Indices) (at : ℕ) (v : World)
    → first_refusal (session_test (Jobs ∷ []) session v ∷ []) ≡ None → IsThrough told_of (submit (home_number session v) t indices) at v (run_call session t indices)
run-own session t None at v free = record { refuses = passed_first (session_test (Jobs ∷ []) session v ∷ []) (submit_tests t None v.plan) free; does = refl }
run-own session t (Some i) at v free = record { refuses = passed_first (session_test (Jobs ∷ []) session v ∷ []) (submit_tests t (Some i) v.plan) free; does = refl }

-- the home was found before
pub run-through : (session : SessionId) (t : JobTemplate) (indices : Option Indices) (at : ℕ) (v : World)
    → first_refusal (session_test (Jobs ∷ []) session v ∷ []) ≡ None → (home : ℕ) → home ≡ home_number session v → IsThrough told_of (submit home t indices) at v (run_call session t indices)
run-through session t indices at v free home is =
    subst (λ n. IsThrough told_of (submit n t indices) at v (run_call session t indices)) (sym is) (run-own session t indices at v free)

-- want of memory may come before it is known whether the journal has room
pub run-unsized : (session : SessionId) (t : JobTemplate) (indices : Option Indices) → is_sized_first (run_call session t indices) ≡ true → ⊥
run-unsized session t None sized = absurd (cc)
run-unsized session t (Some i) sized = absurd (cc)

pub run-short : (session : SessionId) (t : JobTemplate) (indices : Option Indices) (at : ℕ) (w : World)
    → first_refusal (session_test (Jobs ∷ []) session (advance w at) ∷ []) ≡ None → Comes w at (run_call session t indices) (Err fault.OutOfMemory) w
run-short session t indices at w free =
    is_short _ _ refl (through-answer told_of (submit (home_number session w) t indices) w at (run_call session t indices) (run-own session t indices at (advance w at) free))
    (λ sized. absurd (run-unsized session t indices sized)) refl

-- the new jobs bring no reports as yet
pub run-outcome : (home : ℕ) (t : JobTemplate) (indices : Option Indices) (entry : ℕ) (q : Plan) → IsFit q
    → reports_to_come (outcome (submit home t indices) entry q).plan.rows ≤ reports_to_come q.rows
run-outcome home t indices entry q fit =
    outcome-due (submit home t indices) entry q
    (λ free. (let ms = members t indices q in omega (arith, due-append q.rows (new_rows home q q.next_job ms), new-due home q q.next_job ms)))

-- ---- reservations

pub request-first : (session : SessionId) (t : ReservationTemplate) (v : World) (why : Refusal)
    → first_refusal (session_test (Reservations ∷ []) session v ∷ []) ≡ Some why → refusal v (call.RequestReservation session t) ≡ Some why
request-first session t v why is = refused_first (session_test (Reservations ∷ []) session v ∷ []) (request_tests t v.plan) why is

request-own : (session : SessionId) (t : ReservationTemplate) (at : ℕ) (v : World)
    → first_refusal (session_test (Reservations ∷ []) session v ∷ []) ≡ None → IsThrough reply.Reserved (request (home_number session v) t) at v (call.RequestReservation session t)
request-own session t at v free = record { refuses = passed_first (session_test (Reservations ∷ []) session v ∷ []) (request_tests t v.plan) free; does = refl }

-- the home was found before
pub request-through : (session : SessionId) (t : ReservationTemplate) (at : ℕ) (v : World)
    → first_refusal (session_test (Reservations ∷ []) session v ∷ []) ≡ None → (home : ℕ) → home ≡ home_number session v
    → IsThrough reply.Reserved (request home t) at v (call.RequestReservation session t)
request-through session t at v free home is =
    subst (λ n. IsThrough reply.Reserved (request n t) at v (call.RequestReservation session t)) (sym is) (request-own session t at v free)

pub request-outcome : (home : ℕ) (t : ReservationTemplate) (entry : ℕ) (q : Plan) → IsFit q → reports_to_come (outcome (request home t) entry q).plan.rows ≤ reports_to_come q.rows
request-outcome home t entry q fit = outcome-due (request home t) entry q (λ free. omega arith)
