use Rattle.std.proofs.Common.{◌≡◌, ◌++◌, drop, map}
use Rattle.run_chart.specs.Blocks.{cut_in}
use Rattle.run_chart.proofs.blocks.cut_all.Given as goal

-- the reservations so far, and those that are left as they are cut, are all
abbrev pub invariant-loop-reserved : goal.invariant-loop-reserved
invariant-loop-reserved l = l.blocks.items ++ map (cut_in l.ends) (drop l.reserved-index l.accepted) ≡ map (cut_in l.ends) l.accepted
