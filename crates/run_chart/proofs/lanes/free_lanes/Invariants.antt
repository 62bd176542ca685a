use Rattle.std.proofs.Common.{◌≡◌, ◌++◌, drop}
use Rattle.run_chart.specs.Lanes.{free_lanes}
use Rattle.run_chart.proofs.lanes.free_lanes.Given as goal

-- the free lanes so far, and the first of those that are left, are the first of all
abbrev pub invariant-loop-lane : goal.invariant-loop-lane
invariant-loop-lane l = l.free.items ++ free_lanes l.left (drop l.lane-index l.lanes) ≡ free_lanes l.slots l.lanes
