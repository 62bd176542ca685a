-- What the steps of a soak do, by the numbers that are drawn from a seed: our profile.
use Rattle.std.specs.Prelude.{ℕ, zero, suc, ◌+◌, ◌*◌, ◌/◌, ◌%◌, List, Option, Some, None, codes}

-- the next number of a linear congruence
abbrev pub next_draw : ℕ → ℕ
next_draw draw = (draw * 1_103_515_245 + 12_345) % 2_147_483_648

-- the draw of a step, from 1 on; the seed stands before the first
unfoldable pub draw : ℕ → ℕ → ℕ
draw seed zero = seed
draw seed (suc step) = next_draw (draw seed step)

-- a run's template, by the rest that four leaves of a draw's upper bits; 3 is a reservation
abbrev pub template_by : ℕ → Option (List ℕ)
template_by zero = Some (codes "a")
template_by (suc zero) = Some (codes "b")
template_by (suc (suc zero)) = Some (codes "c")
template_by (suc (suc (suc rest))) = None

-- the template of the run that a draw decides on, or None, where it decides on a reservation
abbrev pub template_of : ℕ → Option (List ℕ)
template_of draw = template_by (draw / 65_536 % 4)
