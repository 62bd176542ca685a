-- The calendar and the sums that bound what is launched: our profile.
use Rattle.std.specs.Prelude.{ℕ, zero, suc, ◌+◌, ◌-◌, Bool, true, false, not, ◌&&◌, ◌==◌, nat_le, nat_lt, min, List, find, sum_by, Option, Some, None, is_some, if◌then◌else◌}
use Rattle.std.specs.Option.{option_map_or}
use Rattle.drmaa_types.specs.Moments.{greatest}
use Rattle.drmaa_types.specs.States.{is_started}
use Rattle.drmaa_types.specs.declared.identifiers.ArrayId.{ArrayId}
use Rattle.drmaa_types.specs.declared.identifiers.ReservationId.{ReservationId}
use Rattle.drmaa_types.specs.declared.moments.End.{End}
use Rattle.drmaa_types.specs.declared.moments.End.TheVariants.{At, Never}
use Rattle.drmaa_model.specs.declared.reservations.Accepted.{Accepted}
use Rattle.drmaa_model.specs.declared.rows.Row.{Row}
use Rattle.drmaa_model.specs.Plan.{Plan}

-- ---- the load at a moment

-- an end is after a moment: never is after every one
abbrev pub ends_after : ℕ → End → Bool
ends_after x (At end) = nat_lt x end
ends_after x Never = true

-- an interval is closed at its start and open at its end
abbrev pub covers : ℕ → Accepted → Bool
covers x a = nat_le a.from x && nat_lt x a.until

-- the slots that a reservation takes at a moment
abbrev pub slots_at : ℕ → Accepted → ℕ
slots_at x a = if covers x a then a.slots else 0

-- the slots of the reservations that cover a moment
abbrev pub booked : List Accepted → ℕ → ℕ
booked rs x = sum_by (slots_at x) rs

-- a job is ordinary: it names no reservation
abbrev pub is_ordinary : Row → Bool
is_ordinary row = not (is_some row.wants.reservation)

-- a started ordinary job
abbrev pub is_using : Row → Bool
is_using row = is_ordinary row && is_started row.course.state

-- the slots that a started ordinary job takes at a moment before its planned end
abbrev pub uses_at : ℕ → Row → ℕ
uses_at x row = if is_using row && option_map_or (ends_after x) row.course.planned false then row.course.held else 0

-- the slots that all started ordinary jobs take at a moment
abbrev pub used : List Row → ℕ → ℕ
used rows x = sum_by (uses_at x) rows

-- The load at a moment: the slots of the reservations that cover it, and those held by the started ordinary jobs whose planned end is after it.
abbrev pub load : Plan → ℕ → ℕ
load p x = booked p.reservations x + used p.rows x

-- ---- sums over the rows

-- the job names this reservation
abbrev pub names : ReservationId → Row → Bool
names number row = option_map_or (λ (n : ReservationId). n.0 == number.0) row.wants.reservation false

abbrev pub held_inside : ReservationId → Row → ℕ
held_inside number row = if names number row then row.course.held else 0

-- the slots held by the jobs that name a reservation
abbrev pub in_reservation : ReservationId → List Row → ℕ
in_reservation number rows = sum_by (held_inside number) rows

-- the job is an ordinary one of the queue at this place
abbrev pub is_in_queue : ℕ → Row → Bool
is_in_queue place row = is_ordinary row && option_map_or (λ (own : ℕ). own == place) row.wants.queue false

abbrev pub held_in_queue : ℕ → Row → ℕ
held_in_queue place row = if is_in_queue place row then row.course.held else 0

-- the slots held by the ordinary jobs of a queue
abbrev pub in_queue : ℕ → List Row → ℕ
in_queue place rows = sum_by (held_in_queue place) rows

-- the job is a member of this array
abbrev pub is_member : ArrayId → Row → Bool
is_member array row = option_map_or (λ (a : ArrayId). a.0 == array.0) row.wants.array false

abbrev pub holds_in : ArrayId → Row → ℕ
holds_in array row = if is_member array row && nat_lt 0 row.course.held then 1 else 0

-- how many members of an array hold slots
abbrev pub in_array : ArrayId → List Row → ℕ
in_array array rows = sum_by (holds_in array) rows

-- the accepted reservation of this number
abbrev pub reservation_of : ReservationId → List Accepted → Option Accepted
reservation_of number rs = find (λ (a : Accepted). a.reservation.0 == number.0) rs

-- ---- what fits, at every moment

-- the first of so many numbers that meets a test
unfoldable pub first_from : ℕ → ℕ → (ℕ → Bool) → Option ℕ
first_from from zero test = None
first_from from (suc count) test = if test from then Some from else first_from (suc from) count test

-- the number before which the moments of an interval lie; one without end runs to the greatest moment
abbrev pub bound_of : End → ℕ
bound_of (At end) = min end (suc greatest)
bound_of Never = suc greatest

-- so many slots more are too many at a moment
abbrev pub is_overfull : Plan → ℕ → ℕ → Bool
is_overfull p slots x = nat_lt p.total (load p x + slots)

-- the least moment of the interval at which so many slots more are too many
abbrev pub first_overfull : Plan → ℕ → ℕ → End → Option ℕ
first_overfull p slots from until = first_from from (bound_of until - from) (is_overfull p slots)

-- so many slots fit the interval: with them the load is at most the total at each of its moments
abbrev pub fits : Plan → ℕ → ℕ → End → Bool
fits p slots from until = not (is_some (first_overfull p slots from until))

-- the least start in the frame whose interval of this span ends inside the frame, and which the slots fit
abbrev pub earliest : Plan → ℕ → ℕ → ℕ → ℕ → Option ℕ
earliest p slots from until span = first_from from (suc until - span - from) (λ x. fits p slots x (At (x + span)))
