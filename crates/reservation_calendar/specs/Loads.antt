-- Which moments a booking covers, and the slots that bookings take at a moment: our profile.
use Rattle.std.specs.Prelude.{ℕ, Bool, true, false, ◌&&◌, ◌==◌, nat_lt, nat_le, List, sum_by, if◌then◌else◌}
use Rattle.std.specs.List.{list_any}
use Rattle.drmaa_types.specs.declared.moments.End.{End}
use Rattle.drmaa_types.specs.declared.moments.End.TheVariants.{At, Never}
use Rattle.reservation_calendar.specs.declared.bookings.Booking.{Booking}

-- Whether a moment is before an end: it is before Never.
abbrev pub is_before : ℕ → End → Bool
is_before x (At end) = nat_lt x end
is_before x Never = true

-- Whether a booking covers a moment: intervals are closed at the start and open at the end.
abbrev pub covers : ℕ → Booking → Bool
covers x b = nat_le b.from x && is_before x b.until

-- the slots that a booking takes at a moment
abbrev pub slots_at : ℕ → Booking → ℕ
slots_at x b = if covers x b then b.slots else 0

-- The load at a moment: the sum of the slots of the bookings that cover it.
abbrev pub load : List Booking → ℕ → ℕ
load bookings x = sum_by (slots_at x) bookings

-- whether an end is this moment
abbrev pub is_end : ℕ → End → Bool
is_end x (At end) = end == x
is_end x Never = false

-- whether a booking starts at a moment
abbrev pub starts_at : List Booking → ℕ → Bool
starts_at bookings x = list_any (λ b. b.from == x) bookings

-- whether a booking ends at a moment
abbrev pub ends_at : List Booking → ℕ → Bool
ends_at bookings x = list_any (λ b. is_end x b.until) bookings
