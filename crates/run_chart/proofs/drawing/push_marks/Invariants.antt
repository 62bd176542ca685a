use Rattle.std.proofs.Common.{◌≡◌, ◌++◌, drop, string_bytes}
use Rattle.run_chart.specs.Drawing.{marks_text}
use Rattle.run_chart.proofs.drawing.push_marks.Given as goal

-- what was written so far, and what is left, is all that is written
abbrev pub invariant-loop-at : goal.invariant-loop-at
invariant-loop-at l = string_bytes l.out ++ marks_text l.scale (drop l.at-index l.chart.submitted) ≡ string_bytes l.fn.out ++ marks_text l.scale l.chart.submitted
