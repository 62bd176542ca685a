use Rattle.std.proofs.Common.{◌≡◌, ◌++◌, drop, string_bytes}
use Rattle.run_chart.specs.Drawing.{bars_text}
use Rattle.run_chart.proofs.drawing.push_bars.Given as goal

-- what was written so far, and what is left, is all that is written
abbrev pub invariant-loop-bar : goal.invariant-loop-bar
invariant-loop-bar l = string_bytes l.out ++ bars_text l.scale l.is_detailed (drop l.bar-index l.chart.bars) ≡ string_bytes l.fn.out ++ bars_text l.scale l.is_detailed l.chart.bars
