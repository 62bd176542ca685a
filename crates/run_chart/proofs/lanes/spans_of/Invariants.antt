use Rattle.std.proofs.Common.{◌≡◌, ◌++◌, drop}
use Rattle.run_chart.specs.Lanes.{spans_from, spans_of}
use Rattle.run_chart.proofs.lanes.spans_of.Given as goal

-- the spans so far, and those behind the last one, are those of all lanes
abbrev pub invariant-loop-lane : goal.invariant-loop-lane
invariant-loop-lane l = l.spans.items ++ spans_from l.first l.end (drop l.lane-index l.lanes) ≡ spans_of l.lanes
