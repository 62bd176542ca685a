use Rattle.std.proofs.Common.{◌≡◌, ◌-◌, ◌≤◌}
use Rattle.run_chart.specs.Axes.{moments_to}
use Rattle.run_chart.proofs.axis.moments_of.Given as goal

-- the moments so far
abbrev pub invariant-places : goal.invariant-places
invariant-places l = record {
  made : l.moments.items ≡ moments_to l.scale l.step l.place;
  within : l.place ≤ 8;
}

abbrev pub decreases-places : goal.decreases-places
decreases-places l = 8 - l.place
