-- How the calendar of a book agrees with its plan.
use Rattle.std.specs.Prelude.{◌≡◌, ℕ, ◌+◌, Bool, true, false, not, ◌&&◌, ◌==◌, List, [], ◌∷◌, ◌++◌, filter, sum_by, if◌then◌else◌, IsTrue}
use Rattle.std.specs.List.{list_any}
use Rattle.std.specs.Option.{option_map_or}
use Rattle.drmaa_types.specs.declared.moments.End.{End}
use Rattle.drmaa_types.specs.declared.moments.End.TheVariants.{At, Never}
use Rattle.drmaa_types.specs.declared.identifiers.JobId.{JobId}
use Rattle.drmaa_model.specs.declared.reservations.Accepted.{Accepted}
use Rattle.drmaa_model.specs.declared.rows.Row.{Row}
use Rattle.drmaa_model.specs.Fit.{launched_at}
use Rattle.drmaa_model.specs.Load.{is_using}
use Rattle.drmaa_model.specs.Plan.{Plan}
use Rattle.drmaa_model.specs.Time.{lasts}
use Rattle.reservation_calendar.specs.declared.bookings.Key.{Key}
use Rattle.reservation_calendar.specs.declared.bookings.Key.TheVariants.{Job, Reservation}
use Rattle.reservation_calendar.specs.declared.bookings.Booking.{Booking}
use Rattle.reservation_calendar.specs.Loads.{is_before}
use Rattle.reservation_calendar.specs.Schedules.{Schedule, is_booked, without}
use Rattle.reservation_calendar.specs.Fitting.{Fits}
use Rattle.plan_book.specs.declared.moves.Booked.{Booked}
use Rattle.plan_book.specs.declared.moves.Booked.TheVariants.{Same, Books, Cancels}

-- the booking of a started ordinary job: from its launch to its planned end
abbrev pub booking_of : Row → Booking
booking_of row = record { key = Job row.job; slots = row.course.held; from = launched_at row.course; until = option_map_or (λ (end : End). end) row.course.planned Never }

-- the booking of an accepted reservation
abbrev pub booked_for : Accepted → Booking
booked_for a = record { key = Reservation a.reservation; slots = a.slots; from = a.from; until = At a.until }

-- what is counted of a row's booking, where it has one
abbrev pub counted_of : (Booking → ℕ) → Row → ℕ
counted_of f row = if is_using row then f (booking_of row) else 0

abbrev pub counted_for : (Booking → ℕ) → Accepted → ℕ
counted_for f a = f (booked_for a)

-- The calendar has the bookings of the accepted reservations and of the started ordinary jobs, once each and no others, in some order:
-- whatever is counted of bookings, it has as much of that as they have.
pub record IsTied (s : Schedule) (p : Plan) : Type 0 where
  pub total : s.total ≡ p.total
  pub same : (f : Booking → ℕ) → sum_by f s.bookings ≡ sum_by (counted_for f) p.reservations + sum_by (counted_of f) p.rows

-- the key is that of a reservation that has ended
abbrev pub is_gone : ℕ → List Accepted → Key → Bool
is_gone moment rs (Job job) = false
is_gone moment rs (Reservation number) = list_any (λ (a : Accepted). not (lasts moment a) && (a.reservation.0 == number.0)) rs

-- the bookings of the reservations that have ended leave the calendar
abbrev pub let_go_of : ℕ → List Accepted → Schedule → Schedule
let_go_of moment rs s = record s { bookings = filter (λ (b : Booking). not (is_gone moment rs b.key)) s.bookings }

-- what a move does to the calendar before time comes to its moment, and what it does in the end
abbrev pub booked_first : Booked → Schedule → Schedule
booked_first Same s = s
booked_first (Books b) s = record s { bookings = s.bookings ++ b ∷ [] }
booked_first Cancels s = s

abbrev pub cancelled_last : Booked → JobId → Schedule → Schedule
cancelled_last Same job s = s
cancelled_last (Books b) job s = s
cancelled_last Cancels job s = record s { bookings = without (Job job) s.bookings }

-- A booking may be made: it has a moment, the slots fit, and its key is not booked.
pub record IsFree (s : Schedule) (b : Booking) : Type 0 where
  pub lasting : IsTrue (is_before b.from b.until)
  pub fits : Fits s b.slots b.from b.until
  pub fresh : is_booked s.bookings b.key ≡ false

-- the booking that a move makes, where it makes one, may be made
abbrev pub MayMake : Schedule → Booked → Type 0
MayMake s Same = Unit {0}
MayMake s (Books b) = IsFree s b
MayMake s Cancels = Unit {0}

-- and it is not that of one of these reservations
abbrev pub IsBeside : List Accepted → Booked → Type 0
IsBeside rs Same = Unit {0}
IsBeside rs (Books b) = (moment : ℕ) → is_gone moment rs b.key ≡ false
IsBeside rs Cancels = Unit {0}

abbrev pub is_booking : Booked → Bool
is_booking Same = false
is_booking (Books b) = true
is_booking Cancels = false

-- what a move does to the calendar goes with what it does to the plan
pub record KeepsTie (booked : Booked) (job : JobId) (p q : Plan) : Type 0 where
  pub keeps : (s : Schedule) → IsTied s p → IsTied (cancelled_last booked job (booked_first booked s)) q
