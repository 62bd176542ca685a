-- One reading of a clock, as a call takes it. Our profile.
use Rattle.std.specs.Prelude.{◌≡◌, ℕ, ◌≤◌, List, ◌++◌, Option, Some, None}
use Rattle.drmaa_types.specs.Readings.{Readings, Reads}

-- what contracts see of a clock: whose it is and its readings so far, where it tells them, and the least that may come
pub record Dial : Type 0 where
  pub given : Readings
  pub least : ℕ

abbrev pub dial : Readings → ℕ → Dial
dial given least = record { given = given; least = least }

-- the clock gave this one reading
pub record IsReading (before : Dial) (at : ℕ) (after : Dial) : Type 0 where
  pub told : Reads before.given at after.given
  pub least : before.least ≤ at
  pub rising : at ≤ after.least

-- after these readings a clock tells what it told before, and then them, where it tells its readings
abbrev pub HasGiven : Option (List ℕ) → List ℕ → Option (List ℕ) → Type 0
HasGiven before readings None = Unit {0}
HasGiven (Some before) readings (Some after) = after ≡ before ++ readings
HasGiven None readings (Some after) = ⊥

-- the clock is still that of the same caller, and gave these readings, and no others, where it tells them
pub record Gives (before : Readings) (readings : List ℕ) (after : Readings) : Type 0 where
  pub caller : after.caller ≡ before.caller
  pub told : HasGiven before.told readings after.told
