use Rattle.std.proofs.Common.{◌≡◌, ◌++◌, drop, map}
use Rattle.run_chart.specs.Lanes.{without}
use Rattle.run_chart.proofs.lanes.left.Given as goal

-- the lanes so far, and those that are left as they will be, are all as they will be
abbrev pub invariant-loop-lane : goal.invariant-loop-lane
invariant-loop-lane l = l.free.items ++ map (without l.who) (drop l.lane-index l.lanes) ≡ map (without l.who) l.lanes
