use Rattle.std.proofs.Common.{◌≡◌, drop}
use Rattle.run_chart.specs.Axes.{step_in}
use Rattle.run_chart.proofs.axis.step_in.Given as goal

-- none of the steps so far is long enough
abbrev pub invariant-loop-step : goal.invariant-loop-step
invariant-loop-step l = step_in l.least (drop l.step-index l.steps) ≡ step_in l.least l.steps
