use Rattle.std.proofs.Common.{◌≡◌, ◌++◌, drop}
use Rattle.std.specs.Vec.Iter.{into_iter_items}
use Rattle.run_chart.specs.Bars.{placed}
use Rattle.run_chart.proofs.bars.placed.Given as goal

-- the bars so far, and those of the runs that are left, are the bars of all
abbrev pub invariant-loop-run : goal.invariant-loop-run
invariant-loop-run l = l.bars.items ++ placed l.now (drop l.run-index l.runs) (into_iter_items l.lanes) ≡ placed l.now l.runs l.fn.lanes.items
