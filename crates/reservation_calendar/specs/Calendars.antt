-- What a calendar keeps: its timeline agrees with its bookings: our profile.
use Rattle.std.specs.Prelude.{◌≡◌, ℕ, ◌<◌, ◌^◌, List}
use Rattle.reservation_calendar.specs.declared.bookings.Booking.{Booking}
use Rattle.reservation_calendar.specs.declared.boundaries.Boundary.{Boundary}
use Rattle.reservation_calendar.specs.Loads.{load}
use Rattle.reservation_calendar.specs.Schedules.{schedule, IsSound}
use Rattle.reservation_calendar.specs.Timelines.{load_at, edges_at, edges}

-- The calendar is sound; at each moment its timeline tells the load of the bookings, and how many start or end.
pub record IsCalendar (bookings : List Booking) (steps : List Boundary) (total : ℕ) : Type 0 where
  pub sound : IsSound (schedule bookings total)
  pub small : total < 2 ^ 32
  pub loads : (x : ℕ) → load_at steps x ≡ load bookings x
  pub edges : (x : ℕ) → edges_at steps x ≡ edges bookings x
