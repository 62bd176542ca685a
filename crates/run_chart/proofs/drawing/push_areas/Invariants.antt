use Rattle.std.proofs.Common.{◌≡◌, ◌++◌, drop, string_bytes}
use Rattle.run_chart.specs.Drawing.{areas_text}
use Rattle.run_chart.proofs.drawing.push_areas.Given as goal

-- what was written so far, and what is left, is all that is written
abbrev pub invariant-loop-span : goal.invariant-loop-span
invariant-loop-span l = string_bytes l.out ++ areas_text l.scale l.bar (drop l.span-index l.bar.lanes) ≡ string_bytes l.fn.out ++ areas_text l.scale l.bar l.bar.lanes
