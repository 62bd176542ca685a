use Rattle.std.proofs.Common.{◌≡◌, drop}
use Rattle.run_chart.specs.Scales.{rows_of_bars}
use Rattle.run_chart.proofs.scales.rows_of_bars.Given as goal

-- from here on the rest leads to what all lead to
abbrev pub invariant-loop-bar : goal.invariant-loop-bar
invariant-loop-bar l = rows_of_bars l.most (drop l.bar-index l.bars) ≡ rows_of_bars l.rows l.bars
