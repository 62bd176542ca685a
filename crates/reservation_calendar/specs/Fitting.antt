-- What fits a schedule, at each moment of an interval: our profile.
use Rattle.std.specs.Prelude.{ℕ, ◌+◌, ◌<◌, ◌≤◌, IsTrue}
use Rattle.drmaa_types.specs.Moments.{greatest}
use Rattle.drmaa_types.specs.declared.moments.End.{End}
use Rattle.drmaa_types.specs.declared.moments.End.TheVariants.{At}
use Rattle.reservation_calendar.specs.Loads.{is_before, load}
use Rattle.reservation_calendar.specs.Schedules.{Schedule}

-- A moment of the interval: closed at the start and open at the end, and without end up to the greatest moment.
pub record IsIn (from : ℕ) (until : End) (x : ℕ) : Type 0 where
  pub since : from ≤ x
  pub before : IsTrue (is_before x until)
  pub moment : x ≤ greatest

-- A moment of the interval at which so many slots more would pass the total.
pub record IsOverfull (s : Schedule) (slots from : ℕ) (until : End) (x : ℕ) : Type 0 where
  pub inside : IsIn from until x
  pub above : s.total < load s.bookings x + slots

-- So many slots fit the interval: with them the load is at most the total at each of its moments.
abbrev pub Fits : Schedule → ℕ → ℕ → End → Type 0
Fits s slots from until = (x : ℕ) → IsIn from until x → load s.bookings x + slots ≤ s.total

-- A start in the frame from `from` to `until` whose interval of this span ends inside the frame and fits.
pub record IsFittingStart (s : Schedule) (slots from until span x : ℕ) : Type 0 where
  pub since : from ≤ x
  pub inside : x + span ≤ until
  pub fits : Fits s slots x (At (x + span))
