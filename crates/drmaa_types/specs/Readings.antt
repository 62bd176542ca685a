-- What a clock's readings are: our profile.
use Rattle.std.specs.Prelude.{◌≡◌, ℕ, zero, suc, ◌+◌, ◌-◌, ◌*◌, ◌^◌, min, nat_lt, length, slice_index, List, [], ◌∷◌, ◌++◌, Option, Some, None, if◌then◌else◌}
use Rattle.drmaa_types.specs.Moments.{greatest}

-- what is known of a clock: the caller whose clock it is, where it was handed out to one, and the readings that it gave, in
-- order, where it tells them
pub record Readings : Type 0 where
  pub caller : Option ℕ
  pub told : Option (List ℕ)

-- Where a clock tells its readings after one more, it told them before, and they end with that one.
abbrev pub GoesOn : Option (List ℕ) → ℕ → Option (List ℕ) → Type 0
GoesOn before reading None = Unit {0}
GoesOn (Some before) reading (Some after) = after ≡ before ++ reading ∷ []
GoesOn None reading (Some after) = ⊥

-- one reading more, of the clock of the same caller
pub record Reads (before : Readings) (reading : ℕ) (after : Readings) : Type 0 where
  pub caller : after.caller ≡ before.caller
  pub told : GoesOn before.told reading after.told

-- the readings of a clock that no caller was given
abbrev pub nobodys : Option (List ℕ) → Readings
nobodys told = record { caller = None; told = told }

-- what the clock of one caller is seen as: the number of the caller, and the clock that it reads
pub record Owned (C : Type 0) : Type 0 where
  pub caller : ℕ
  pub clock : C

-- the first readings of a clock whose readings, counted from 0, are these
abbrev pub first_readings : (ℕ → ℕ) → ℕ → List ℕ
first_readings reading zero = []
first_readings reading (suc n) = first_readings reading n ++ reading n ∷ []

-- A clock that counts its readings tells them up to the end of its count.
abbrev pub told_readings : (ℕ → ℕ) → ℕ → Option (List ℕ)
told_readings reading count = if nat_lt count (2 ^ 64 - 1) then Some (first_readings reading count) else None

-- a count that stays at its greatest value once it is there
abbrev pub counted_on : ℕ → ℕ
counted_on count = min (count + 1) (2 ^ 64 - 1)

-- what a `StepClock` is seen as: its first reading, the step, and how many readings it gave
pub record Stepping : Type 0 where
  pub first : ℕ
  pub step : ℕ
  pub count : ℕ

-- its reading with this number, counted from 0: held at the greatest moment
abbrev pub step_reading : ℕ → ℕ → ℕ → ℕ
step_reading first step n = min (first + n * step) greatest

-- what a `ListClock` is seen as: its list, and how many readings it gave
pub record Listed : Type 0 where
  pub readings : List ℕ
  pub count : ℕ

-- its reading with this number, counted from 0: past the list its last one
abbrev pub list_reading : List ℕ → ℕ → ℕ
list_reading readings n = slice_index readings (min n (length readings - 1))
