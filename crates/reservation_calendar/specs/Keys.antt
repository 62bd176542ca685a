-- Bookings that are found by their keys: our profile.
use Rattle.std.specs.Prelude.{◌≡◌, ℕ, ◌<◌, ◌≤◌, IsTrue, List, [], ◌∷◌, length, All, AllPairs, Option, Some, None, if◌then◌else◌}
use Rattle.std.specs.declared.cmp.Ordering.{Ordering}
use Rattle.reservation_calendar.specs.declared.bookings.Key.{Key}
use Rattle.reservation_calendar.specs.declared.bookings.Booking.{Booking}
use Rattle.reservation_calendar.specs.contracts.bookings.KeyOrd.TheImpl as key_ord
use Rattle.reservation_calendar.specs.Schedules.{same_key, booked_once}

-- the order of keys
abbrev pub key_order : Key → Key → Ordering
key_order = (key_ord.ghosts).cmp

-- the number under which the booking of a key was made
abbrev pub number_of : List Booking → List ℕ → Key → Option ℕ
number_of [] numbers key = None
number_of (b ∷ bs) [] key = None
number_of (b ∷ bs) (n ∷ ns) key = if same_key b.key key then Some n else number_of bs ns key

-- how many bookings a calendar can take in its life
abbrev pub most_numbers : ℕ
most_numbers = 1_000_000_000_000_000_000

-- Each booking has a number, the numbers rise and are below the next one, and a key finds that of its booking.
pub record IsKeyed (bookings : List Booking) (numbers : List ℕ) (next : ℕ) (found : Key → Option ℕ) : Type 0 where
  pub once : IsTrue (booked_once bookings)
  pub count : length numbers ≡ length bookings
  pub rising : AllPairs (λ (a b : ℕ). a < b) numbers
  pub few : length bookings ≤ next
  pub within : next ≤ most_numbers
  pub below : All (λ (n : ℕ). n < next) numbers
  pub keys : (key : Key) → found key ≡ number_of bookings numbers key
