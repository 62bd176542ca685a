-- Counts of faults and of calls, which stay at their greatest value once they are there: our profile.
use Rattle.std.specs.Prelude.{ℕ, ◌≤◌}
use Rattle.drmaa_types.specs.Readings.{counted_on}

-- The count rose, or stands at its greatest value.
abbrev pub Rose : ℕ → ℕ → Type 0
Rose old new = counted_on old ≤ new
