-- What boundaries tell: the load at a moment, and how many bookings start or end at it: our profile.
use Rattle.std.specs.Prelude.{◌≡◌, ℕ, zero, suc, ◌+◌, ◌<◌, ◌≤◌, ◌==◌, ◌&&◌, nat_le, nat_lt, Bool, true, false, List, [], ◌∷◌, All, AllPairs, length, sum_by, if◌then◌else◌, slice_index_or}
use Rattle.drmaa_types.specs.Moments.{greatest}
use Rattle.drmaa_types.specs.declared.moments.End.{End}
use Rattle.drmaa_types.specs.declared.moments.End.TheVariants.{At, Never}
use Rattle.reservation_calendar.specs.declared.bookings.Booking.{Booking}
use Rattle.reservation_calendar.specs.declared.boundaries.Boundary.{Boundary}
use Rattle.reservation_calendar.specs.Loads.{is_end}

-- each boundary comes before all later ones
abbrev pub IsRising : List Boundary → Type 0
IsRising steps = AllPairs (λ (a b : Boundary). a.moment < b.moment) steps

-- the load from the last boundary at or before a moment; the earlier load where there is none
abbrev pub load_after : ℕ → List Boundary → ℕ → ℕ
load_after earlier [] x = earlier
load_after earlier (step ∷ steps) x = if nat_le step.moment x then load_after step.load steps x else earlier

-- the load at a moment: before the first boundary there is none
abbrev pub load_at : List Boundary → ℕ → ℕ
load_at steps x = load_after 0 steps x

-- how many bookings start or end at a moment, as the boundaries count them
abbrev pub edges_at : List Boundary → ℕ → ℕ
edges_at steps x = sum_by (λ (step : Boundary). if step.moment == x then step.edges else 0) steps

-- what stands for a boundary past the last one
abbrev pub nowhere : Boundary
nowhere = record { moment = 0; load = 0; edges = 0 }

-- the moment of the boundary at a place, and the load from it on
abbrev pub moment_of : List Boundary → ℕ → ℕ
moment_of steps k = (slice_index_or steps k nowhere).moment

abbrev pub load_of : List Boundary → ℕ → ℕ
load_of steps k = (slice_index_or steps k nowhere).load

-- the load that the first so many boundaries leave
abbrev pub load_before : List Boundary → ℕ → ℕ
load_before steps zero = 0
load_before steps (suc k) = load_of steps k

-- the boundaries before this place pass a test of moments, and the others do not
pub record IsPlace (passes : ℕ → Bool) (steps : List Boundary) (p : ℕ) : Type 0 where
  pub within : p ≤ length steps
  pub before : (k : ℕ) → k < p → passes (moment_of steps k) ≡ true
  pub after : (k : ℕ) → p ≤ k → k < length steps → passes (moment_of steps k) ≡ false

-- the loads from one place to another are higher by so many slots, and all else is the same
pub record IsRaised (low high : List Boundary) (first last slots : ℕ) : Type 0 where
  pub count : length high ≡ length low
  pub moments : (k : ℕ) → moment_of high k ≡ moment_of low k
  pub edges : (k : ℕ) → (slice_index_or high k nowhere).edges ≡ (slice_index_or low k nowhere).edges
  pub loads : (k : ℕ) → load_of high k ≡ load_of low k + (if nat_le first k && nat_lt k last then slots else 0)

-- what is always true of a timeline: its boundaries are moments that rise, and bookings start or end at each
pub record IsTimeline (steps : List Boundary) : Type 0 where
  pub rising : IsRising steps
  pub moments : All (λ (step : Boundary). step.moment ≤ greatest) steps
  pub used : All (λ (step : Boundary). 0 < step.edges) steps

-- the boundary at place k is at this moment
pub record IsAt (steps : List Boundary) (x k : ℕ) : Type 0 where
  pub inside : k < length steps
  pub here : moment_of steps k ≡ x

-- a boundary at this moment would go to place p: lesser moments before it, and greater ones from it on
pub record IsGapFor (steps : List Boundary) (x p : ℕ) : Type 0 where
  pub within : p ≤ length steps
  pub lesser : (k : ℕ) → k < p → moment_of steps k < x
  pub greater : (k : ℕ) → p ≤ k → k < length steps → x < moment_of steps k

-- a timeline: its boundaries, and for how many more there is memory
pub record Line : Type 0 where
  pub steps : List Boundary
  pub room : ℕ

abbrev pub line : List Boundary → ℕ → Line
line steps room = record { steps = steps; room = room }

-- how often a booking starts or ends at a moment
abbrev pub edges_of : ℕ → Booking → ℕ
edges_of x b = (if b.from == x then 1 else 0) + (if is_end x b.until then 1 else 0)

-- how many bookings start at a moment, and how many end at it, in sum
abbrev pub edges : List Booking → ℕ → ℕ
edges bookings x = sum_by (edges_of x) bookings

-- a load does not change at this moment
pub record IsLevel (f : ℕ → ℕ) (x : ℕ) : Type 0 where
  pub first : x ≡ 0 → f 0 ≡ 0
  pub later : (y : ℕ) → y + 1 ≡ x → f y ≡ f x

-- a boundary stands at the end, where there is one
abbrev pub IsBounded : List Boundary → End → Type 0
IsBounded steps (At end) = 0 < edges_at steps end
IsBounded steps Never = Unit {0}
