-- What a session number may speak of: GFD.231, SessionManager; the kinds and the order of tests are our profile.
use Rattle.std.specs.Prelude.{ℕ, Bool, false, not, ◌&&◌, ◌==◌, List, [], ◌∷◌, filter, Option, Some, None, is_none, if◌then◌else◌}
use Rattle.std.specs.List.{list_any}
use Rattle.std.specs.Option.{option_map_or, option_and_then}
use Rattle.session_table.specs.Sessions.{Sessions, meaning_of, is_kind}
use Rattle.drmaa_types.specs.declared.identifiers.JobId.{JobId}
use Rattle.drmaa_types.specs.declared.identifiers.ReservationId.{ReservationId}
use Rattle.drmaa_types.specs.declared.identifiers.SessionId.{SessionId}
use Rattle.drmaa_types.specs.declared.refusals.Refusal.{Refusal}
use Rattle.drmaa_types.specs.declared.refusals.Refusal.TheVariants.{InvalidArgument, InvalidSession}
use Rattle.drmaa_types.specs.declared.refusals.Which.TheVariants as which
use Rattle.drmaa_types.specs.declared.sessions.SessionKind.{SessionKind}
use Rattle.drmaa_types.specs.declared.sessions.SessionKind.TheVariants.{Jobs, Monitoring}
use Rattle.drmaa_model.specs.declared.calls.Target.{Target}
use Rattle.drmaa_model.specs.declared.calls.Target.TheVariants as target
use Rattle.drmaa_model.specs.declared.reservations.Accepted.{Accepted}
use Rattle.drmaa_model.specs.declared.rows.Row.{Row}
use Rattle.drmaa_model.specs.Rows.{is_of}
use Rattle.drmaa_model.specs.Targets.{is_meant, argument_of}
use Rattle.drmaa_model.specs.World.{World}

-- ---- the session

-- the kind that a session number has, where it is valid
abbrev pub kind_of : SessionId → Sessions → Option SessionKind
kind_of session s = option_and_then (λ (m : SessionKind × Option ℕ). Some m.0) (meaning_of session.0 s.valid)

-- the named session that a number stands for, if it stands for one
abbrev pub home_in : SessionId → Sessions → Option ℕ
home_in session s = option_and_then (λ (m : SessionKind × Option ℕ). m.1) (meaning_of session.0 s.valid)

-- the same, as a number
abbrev pub home_number : SessionId → World → ℕ
home_number session w = option_map_or (λ (home : ℕ). home) (home_in session w.sessions) 0

-- the number is valid, and of one of these kinds
abbrev pub is_open : List SessionKind → SessionId → Sessions → Bool
is_open kinds session s = option_map_or (λ (kind : SessionKind). list_any (is_kind kind) kinds) (kind_of session s) false

abbrev pub session_test : List SessionKind → SessionId → World → Bool × Refusal
session_test kinds session w = (not (is_open kinds session w.sessions), InvalidSession)

-- the number is for monitoring
abbrev pub is_monitor : SessionId → World → Bool
is_monitor session w = is_open (Monitoring ∷ []) session w.sessions

-- ---- what belongs to it

-- both are one named session
abbrev pub is_same_home : Option ℕ → Option ℕ → Bool
is_same_home (Some a) (Some b) = a == b
is_same_home (Some a) None = false
is_same_home None home = false

-- the job belongs to the named session that the number stands for
abbrev pub is_own : SessionId → World → Row → Bool
is_own session w row = is_same_home (home_in session w.sessions) row.home

-- the rows of the named session
abbrev pub own_rows : SessionId → World → List Row
own_rows session w = filter (is_own session w) w.plan.rows

abbrev pub is_own_reservation : SessionId → World → Accepted → Bool
is_own_reservation session w a = is_same_home (home_in session w.sessions) a.home

abbrev pub own_reservations : SessionId → World → List Accepted
own_reservations session w = filter (is_own_reservation session w) w.plan.reservations

-- ---- the tests that follow that of the session

-- no kept job of the named session is meant
abbrev pub own_test : SessionId → Target → World → Bool × Refusal
own_test session t w = (not (list_any (is_meant t) (own_rows session w)), InvalidArgument (argument_of t))

-- for monitoring: no such job is kept; else none of the named session
abbrev pub seen_test : SessionId → JobId → World → Bool × Refusal
seen_test session job w =
    (if is_monitor session w then not (list_any (is_of job) w.plan.rows) else not (list_any (is_of job) (own_rows session w)), InvalidArgument which.Job)

-- the job is kept, and without a session
abbrev pub is_left : JobId → Row → Bool
is_left job row = is_of job row && is_none row.home

-- for monitoring: no such job is kept without a session; else none of the named session
abbrev pub reap_test : SessionId → Target → World → Bool × Refusal
reap_test session (target.Job job) w =
    (if is_monitor session w then not (list_any (is_left job) w.plan.rows) else not (list_any (is_of job) (own_rows session w)), InvalidArgument which.Job)
reap_test session (target.Array array) w = own_test session (target.Array array) w

-- the kinds of session that may reap
abbrev pub reapers : Target → List SessionKind
reapers (target.Job job) = Jobs ∷ Monitoring ∷ []
reapers (target.Array array) = Jobs ∷ []

-- no accepted reservation of this number belongs to the named session
abbrev pub reservation_test : SessionId → ReservationId → World → Bool × Refusal
reservation_test session number w =
    (not (list_any (λ (a : Accepted). a.reservation.0 == number.0) (own_reservations session w)), InvalidArgument which.Reservation)
