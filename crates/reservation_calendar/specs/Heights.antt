-- How high the load of a timeline is over an interval: our profile.
use Rattle.std.specs.Prelude.{ℕ, ◌+◌, ◌<◌, ◌≤◌, List}
use Rattle.drmaa_types.specs.declared.moments.End.{End}
use Rattle.drmaa_types.specs.declared.moments.End.TheVariants.{At}
use Rattle.reservation_calendar.specs.declared.boundaries.Boundary.{Boundary}
use Rattle.reservation_calendar.specs.Fitting.{IsIn}
use Rattle.reservation_calendar.specs.Timelines.{load_at}

-- the load is at most so many slots at each moment of the interval
abbrev pub IsLow : List Boundary → ℕ → ℕ → End → Type 0
IsLow steps most from until = (x : ℕ) → IsIn from until x → load_at steps x ≤ most

-- a moment of the interval at which it is above them
pub record IsAbove (steps : List Boundary) (most from : ℕ) (until : End) (x : ℕ) : Type 0 where
  pub inside : IsIn from until x
  pub above : most < load_at steps x

-- a start in the frame from `from` to `until` whose interval of this span ends inside the frame and is low
pub record IsLowStart (steps : List Boundary) (most from until span x : ℕ) : Type 0 where
  pub since : from ≤ x
  pub inside : x + span ≤ until
  pub low : IsLow steps most x (At (x + span))
