-- How long ago a job was launched, by the parts of its course: our profile.
use Rattle.std.specs.Prelude.{ℕ, ◌-◌, Option, if◌then◌else◌}
use Rattle.std.specs.Option.{option_map, option_map_or}
use Rattle.drmaa_types.specs.States.{is_waiting}
use Rattle.drmaa_types.specs.declared.states.JobState.{JobState}

abbrev pub clock_of : ℕ → JobState → Option ℕ → Option ℕ → Option ℕ
clock_of now state finished dispatched =
    option_map (λ (launched : ℕ). if is_waiting state then 0 else option_map_or (λ (end : ℕ). end) finished now - launched) dispatched
