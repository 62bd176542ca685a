use Rattle.std.proofs.Common.{◌≡◌, drop}
use Rattle.run_chart.specs.Drawing.{lanes_below}
use Rattle.run_chart.proofs.drawing.lanes_below.Given as goal

-- from here on the rest leads to what all lead to
abbrev pub invariant-loop-other : goal.invariant-loop-other
invariant-loop-other l = lanes_below l.rows l.block l.level (drop l.other-index l.others) ≡ lanes_below l.rows l.block 0 l.others
