use Rattle.std.proofs.Common.{◌≡◌, ◌++◌, drop, string_bytes}
use Rattle.run_chart.specs.Numbers.{all_text}
use Rattle.run_chart.proofs.numbers.push_numbers.Given as goal

-- what was written so far, and what is left, is all that is written
abbrev pub invariant-loop-bar : goal.invariant-loop-bar
invariant-loop-bar l = string_bytes l.out ++ all_text l.scale (drop l.bar-index l.chart.bars) ≡ string_bytes l.fn.out ++ all_text l.scale l.chart.bars
