-- The tests that come before those of the core, and what they leave to it.
use Rattle.std.proofs.Common.{◌≡◌, ◌==◌, ℕ, Bool, true, false, cond, not, ◌&&◌, List, [], ◌∷◌, Some, None, refl, sym, ◌∙◌, ap}
use Rattle.std.specs.Prelude.{is_some, is_none, find}
use Rattle.std.specs.List.{list_any}
use Rattle.std.proofs.lemmas.Bool.{not-false, not_from_true}
use Rattle.drmaa_types.specs.Refusals.{first_refusal}
use Rattle.drmaa_types.specs.RefusalLaws.{refused_first, passed_first}
use Rattle.drmaa_types.specs.declared.identifiers.JobId.{JobId}
use Rattle.drmaa_types.specs.declared.identifiers.ReservationId.{ReservationId}
use Rattle.drmaa_types.specs.declared.identifiers.SessionId.{SessionId}
use Rattle.drmaa_types.specs.declared.refusals.Refusal.{Refusal}
use Rattle.drmaa_types.specs.declared.refusals.Refusal.TheVariants.{InvalidArgument, UnsupportedOperation}
use Rattle.drmaa_types.specs.declared.refusals.Which.TheVariants as which
use Rattle.drmaa_types.specs.declared.sessions.SessionKind.TheVariants.{Jobs, Reservations}
use Rattle.drmaa_types.specs.declared.states.Control.{Control}
use Rattle.drmaa_model.specs.declared.calls.Call.TheVariants as call
use Rattle.drmaa_model.specs.declared.calls.Report.{Report}
use Rattle.drmaa_model.specs.declared.calls.Report.TheVariants as report
use Rattle.drmaa_model.specs.declared.calls.Target.{Target}
use Rattle.drmaa_model.specs.declared.calls.Target.TheVariants as target
use Rattle.drmaa_model.specs.declared.reservations.Accepted.{Accepted}
use Rattle.drmaa_model.specs.declared.rows.Row.{Row}
use Rattle.drmaa_model.specs.Controlling.{control, control_tests, reap, reap_tests}
use Rattle.drmaa_model.specs.Effects.{unit}
use Rattle.drmaa_model.specs.Homes.{session_test, own_test, reap_test, reapers, reservation_test, is_own, own_rows, is_own_reservation, own_reservations, is_monitor, is_left}
use Rattle.drmaa_model.specs.OperationLaws.{no_test}
use Rattle.drmaa_model.specs.Refusals.{refusal, is_pausing}
use Rattle.drmaa_model.specs.Reporting.{report_of}
use Rattle.drmaa_model.specs.Requests.{end_reservation}
use Rattle.drmaa_model.specs.Rows.{is_of}
use Rattle.drmaa_model.specs.Targets.{is_meant, kept_test}
use Rattle.drmaa_model.specs.World.{World}
use Rattle.machine_readings.specs.Lookups.{any-filter, any-both, any-found}
use Rattle.machine_calls.specs.Reports.{call_of}
use Rattle.machine_calls.proofs.Through.{IsThrough}

-- one that is own is one
own-kept : (session : SessionId) (t : Target) (v : World) → (own_test session t v).0 ≡ false → (kept_test t v.plan.rows).0 ≡ false
own-kept session t v is =
    not_from_true (list_any (is_meant t) v.plan.rows) (any-filter (is_meant t) (is_own session v) v.plan.rows (not-false (list_any (is_meant t) (own_rows session v)) is))

-- one that is without a session is one
left-kept : (job : JobId) (rows : List Row) → list_any (is_left job) rows ≡ true → list_any (is_of job) rows ≡ true
left-kept job rows is = any-both (is_of job) (λ (row : Row). is_none row.home) rows is

reaped-kept : (session : SessionId) (t : Target) (v : World) → (reap_test session t v).0 ≡ false → (kept_test t v.plan.rows).0 ≡ false
reaped-kept session (target.Job job) v is =
    (elim (is_monitor session v) as (λ b. cond b (not (list_any (is_left job) v.plan.rows)) (not (list_any (is_of job) (own_rows session v))) ≡ false → not (list_any (is_of job) v.plan.rows) ≡ false) [
      | true ↦ λ h. not_from_true (list_any (is_of job) v.plan.rows) (left-kept job v.plan.rows (not-false (list_any (is_left job) v.plan.rows) h))
      | false ↦ λ h. not_from_true (list_any (is_of job) v.plan.rows) (any-filter (is_of job) (is_own session v) v.plan.rows (not-false (list_any (is_of job) (own_rows session v)) h))
    ]) is
reaped-kept session (target.Array array) v is = own-kept session (target.Array array) v is

-- a table whose first test does not hold
passes : (t : Bool × Refusal) (ts : List (Bool × Refusal)) → t.0 ≡ false → first_refusal (t ∷ ts) ≡ first_refusal ts
passes t ts is = ap (λ b. cond b (Some t.1) (first_refusal ts)) is

-- ---- reaping

pub reap-first : (session : SessionId) (t : Target) (v : World) (why : Refusal)
    → first_refusal (session_test (reapers t) session v ∷ reap_test session t v ∷ []) ≡ Some why → refusal v (call.Reap session t) ≡ Some why
reap-first session t v why is = refused_first (session_test (reapers t) session v ∷ reap_test session t v ∷ []) (reap_tests t v.plan) why is

pub reap-through : (session : SessionId) (t : Target) (at : ℕ) (v : World)
    → first_refusal (session_test (reapers t) session v ∷ reap_test session t v ∷ []) ≡ None → IsThrough unit (reap t) at v (call.Reap session t)
reap-through session t at v free =
    let rest = no_test (session_test (reapers t) session v) (reap_test session t v ∷ []) free in
    let own = no_test (reap_test session t v) [] rest.1 in
    record {
      refuses = passed_first (session_test (reapers t) session v ∷ reap_test session t v ∷ []) (reap_tests t v.plan) free
          ∙ sym (passes (kept_test t v.plan.rows) (reap_tests t v.plan) (reaped-kept session t v own.0));
      does = refl;
    }

-- ---- control

pub control-first : (session : SessionId) (t : Target) (what : Control) (v : World) (why : Refusal)
    → first_refusal (session_test (Jobs ∷ []) session v ∷ own_test session t v ∷ (is_pausing what && not v.config.suspend, UnsupportedOperation) ∷ []) ≡ Some why
    → refusal v (call.Control session t what) ≡ Some why
control-first session t what v why is =
    refused_first (session_test (Jobs ∷ []) session v ∷ own_test session t v ∷ (is_pausing what && not v.config.suspend, UnsupportedOperation) ∷ []) (control_tests t what v.plan) why is

pub control-through : (session : SessionId) (t : Target) (what : Control) (at : ℕ) (v : World)
    → first_refusal (session_test (Jobs ∷ []) session v ∷ own_test session t v ∷ (is_pausing what && not v.config.suspend, UnsupportedOperation) ∷ []) ≡ None
    → IsThrough unit (control t what) at v (call.Control session t what)
control-through session t what at v free =
    let pausing : Bool × Refusal = (is_pausing what && not v.config.suspend, UnsupportedOperation) in
    let rest = no_test (session_test (Jobs ∷ []) session v) (own_test session t v ∷ pausing ∷ []) free in
    let own = no_test (own_test session t v) (pausing ∷ []) rest.1 in
    record {
      refuses = passed_first (session_test (Jobs ∷ []) session v ∷ own_test session t v ∷ pausing ∷ []) (control_tests t what v.plan) free
          ∙ sym (passes (kept_test t v.plan.rows) (control_tests t what v.plan) (own-kept session t v own.0));
      does = refl;
    }

-- ---- reservations that end

pub end-first : (session : SessionId) (number : ReservationId) (v : World) (why : Refusal)
    → first_refusal (session_test (Reservations ∷ []) session v ∷ reservation_test session number v ∷ []) ≡ Some why → refusal v (call.EndReservation session number) ≡ Some why
end-first session number v why is = is

pub end-through : (session : SessionId) (number : ReservationId) (at : ℕ) (v : World)
    → first_refusal (session_test (Reservations ∷ []) session v ∷ reservation_test session number v ∷ []) ≡ None
    → IsThrough unit (end_reservation number) at v (call.EndReservation session number)
end-through session number at v free =
    let test : Accepted → Bool = λ a. a.reservation.0 == number.0 in
    let rest = no_test (session_test (Reservations ∷ []) session v) (reservation_test session number v ∷ []) free in
    let own = no_test (reservation_test session number v) [] rest.1 in
    let there : list_any test v.plan.reservations ≡ true =
    any-filter test (is_own_reservation session v) v.plan.reservations (not-false (list_any test (own_reservations session v)) own.0) in
    let kept : not (is_some (find test v.plan.reservations)) ≡ false = not_from_true (is_some (find test v.plan.reservations)) (sym (any-found test v.plan.reservations) ∙ there) in
    record { refuses = free ∙ sym (passes (not (is_some (find test v.plan.reservations)), InvalidArgument which.Reservation) [] kept); does = refl }

-- ---- reports

pub report-through : (r : Report) (at : ℕ) (v : World) → IsThrough unit (report_of r) at v (call_of r)
report-through (report.Started job attempt) at v = record { refuses = refl; does = refl }
report-through (report.StartFailed job attempt) at v = record { refuses = refl; does = refl }
report-through (report.Exited job attempt exit) at v = record { refuses = refl; does = refl }
report-through (report.ExitUnknown job attempt) at v = record { refuses = refl; does = refl }
report-through (report.SignalDone job attempt kind) at v = record { refuses = refl; does = refl }
report-through (report.SignalFailed job attempt kind) at v = record { refuses = refl; does = refl }
