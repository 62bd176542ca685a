use Rattle.std.proofs.Common.{◌≡◌, ◌++◌, drop}
use Rattle.run_chart.specs.Lanes.{lanes_from, lanes_of}
use Rattle.run_chart.proofs.lanes.lanes_of.Given as goal

-- what was taken so far, and what the entries that are left take, is what all take
abbrev pub invariant-loop-entry : goal.invariant-loop-entry
invariant-loop-entry l = l.found.items ++ lanes_from l.lanes.items (drop l.entry-index l.entries) ≡ lanes_of l.slots l.entries
