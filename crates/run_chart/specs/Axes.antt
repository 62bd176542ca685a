-- The round moments of the axis of time: our profile.
use Rattle.std.specs.Prelude.{ℕ, zero, suc, ◌+◌, ◌-◌, ◌*◌, ◌/◌, ◌%◌, max, nat_le, List, [], ◌∷◌, ◌++◌, Option, Some, None, option_to_list, if◌then◌else◌}
use Rattle.run_chart.specs.declared.axis.TheConstants.{STEPS}
use Rattle.run_chart.specs.declared.scales.Scale.{Scale}

abbrev pub step_in : ℕ → List ℕ → ℕ
step_in least [] = 1
step_in least (step ∷ steps) = if nat_le least step then step else step_in least steps

-- the first step that is longer than a sixth of the axis
abbrev pub step_of : Scale → ℕ
step_of s = max (step_in ((s.last - s.first) / 6 + 1) STEPS) 1

-- the first multiple of the step that the axis has, and the moments behind it
abbrev pub start_of : Scale → ℕ → ℕ
start_of s step = s.first + (step - s.first % step) % step

unfoldable pub moment_at : Scale → ℕ → ℕ → Option ℕ
moment_at s step place =
    if nat_le (start_of s step + place * step) s.last then Some (start_of s step + place * step) else None

abbrev pub moments_to : Scale → ℕ → ℕ → List ℕ
moments_to s step zero = []
moments_to s step (suc place) = moments_to s step place ++ option_to_list (moment_at s step place)

unfoldable pub moments_of : Scale → List ℕ
moments_of s = moments_to s (step_of s) 8
