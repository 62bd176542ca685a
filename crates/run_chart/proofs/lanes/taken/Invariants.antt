use Rattle.std.proofs.Common.{◌≡◌, ◌++◌, drop}
use Rattle.run_chart.specs.Lanes.{taken}
use Rattle.run_chart.proofs.lanes.taken.Given as goal

-- the lanes so far, and those that are left as they will be, are all as they will be
abbrev pub invariant-loop-lane : goal.invariant-loop-lane
invariant-loop-lane l = l.held.items ++ taken l.who l.left (drop l.lane-index l.lanes) ≡ taken l.who l.slots l.lanes
