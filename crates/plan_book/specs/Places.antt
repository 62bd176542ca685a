-- Where an element of a number stands in a list that is in order of number.
use Rattle.std.specs.Prelude.{◌≡◌, ℕ, ◌<◌, Bool, true, false, List, length, slice_index_or}
use Rattle.drmaa_model.specs.declared.reservations.Accepted.{Accepted}
use Rattle.drmaa_model.specs.Fit.{IsRising, reservation_number}

-- the element at place i has this number
pub record IsAt {X : Type 0} (number : X → ℕ) (n : ℕ) (xs : List X) (i : ℕ) : Type 0 where
  pub within : i < length xs
  pub there : (d : X) → number (slice_index_or xs i d) ≡ n

-- the reservations are in order of number
abbrev pub AreSorted : List Accepted → Type 0
AreSorted rs = IsRising reservation_number rs

-- the element at place i is the first that meets the test
pub record IsFirstTo {X : Type 0} (test : X → Bool) (xs : List X) (i : ℕ) : Type 0 where
  pub within : i < length xs
  pub meets : (d : X) → test (slice_index_or xs i d) ≡ true
  pub before : (k : ℕ) (d : X) → k < i → test (slice_index_or xs k d) ≡ false
