use Rattle.std.proofs.Common.{◌≡◌, ◌++◌, drop, string_bytes}
use Rattle.run_chart.specs.Pages.{ticks_text}
use Rattle.run_chart.proofs.page.push_ticks.Given as goal

-- what was written so far, and what is left, is all that is written
abbrev pub invariant-loop-at : goal.invariant-loop-at
invariant-loop-at l = string_bytes l.out ++ ticks_text l.scale l.height (drop l.at-index l.moments) ≡ string_bytes l.fn.out ++ ticks_text l.scale l.height l.moments
