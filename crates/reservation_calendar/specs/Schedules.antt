-- What a calendar is seen as: our profile.
use Rattle.std.specs.Prelude.{ℕ, ◌≤◌, ◌==◌, Bool, true, false, ◌&&◌, not, List, [], ◌∷◌, filter, IsTrue}
use Rattle.std.specs.List.{list_any, list_all}
use Rattle.drmaa_types.specs.Moments.{greatest}
use Rattle.reservation_calendar.specs.declared.bookings.Key.{Key}
use Rattle.reservation_calendar.specs.declared.bookings.Key.TheVariants.{Job, Reservation}
use Rattle.reservation_calendar.specs.declared.bookings.Booking.{Booking}
use Rattle.reservation_calendar.specs.Loads.{is_before, load}

-- A calendar's bookings in the order in which they were made, and the machine's slots.
pub record Schedule : Type 0 where
  pub bookings : List Booking
  pub total : ℕ

-- the schedule of these bookings and slots
abbrev pub schedule : List Booking → ℕ → Schedule
schedule bookings total = record { bookings = bookings; total = total }

-- whether two keys are one
abbrev pub same_key : Key → Key → Bool
same_key (Job a) (Job b) = a.0 == b.0
same_key (Job a) (Reservation b) = false
same_key (Reservation a) (Job b) = false
same_key (Reservation a) (Reservation b) = a.0 == b.0

-- whether a booking stands under a key
abbrev pub is_booked : List Booking → Key → Bool
is_booked bookings key = list_any (λ b. same_key b.key key) bookings

-- the bookings of all other keys, in order
abbrev pub without : Key → List Booking → List Booking
without key bookings = filter (λ b. not (same_key b.key key)) bookings

-- whether no two bookings have one key
abbrev pub booked_once : List Booking → Bool
booked_once [] = true
booked_once (b ∷ bs) = not (is_booked bs b.key) && booked_once bs

-- At no moment is the load above the total.
abbrev pub IsWithin : List Booking → ℕ → Type 0
IsWithin bookings total = (x : ℕ) → x ≤ greatest → load bookings x ≤ total

-- What is true of each calendar.
pub record IsSound (s : Schedule) : Type 0 where
  pub within : IsWithin s.bookings s.total
  pub lasting : IsTrue (list_all (λ b. is_before b.from b.until) s.bookings)
  pub once : IsTrue (booked_once s.bookings)
