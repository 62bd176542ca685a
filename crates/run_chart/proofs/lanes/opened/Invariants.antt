use Rattle.std.proofs.Common.{◌≡◌, ◌-◌, ◌≤◌}
use Rattle.run_chart.specs.Lanes.{opened}
use Rattle.run_chart.proofs.lanes.opened.Given as goal

-- the lanes so far
abbrev pub invariant-lanes : goal.invariant-lanes
invariant-lanes l = record {
  made : l.lanes.items ≡ opened l.number;
  within : l.number ≤ l.slots;
}

abbrev pub decreases-lanes : goal.decreases-lanes
decreases-lanes l = l.slots - l.number
