use Rattle.std.proofs.Common.{◌≡◌, ◌++◌, drop}
use Rattle.run_chart.specs.Charts.{submitted_from}
use Rattle.run_chart.proofs.charts.submitted_of.Given as goal

-- the submissions so far, and those of the entries that are left from now on, are all
abbrev pub invariant-loop-entry : goal.invariant-loop-entry
invariant-loop-entry l = l.moments.items ++ submitted_from l.now (drop l.entry-index l.entries) ≡ submitted_from 0 l.entries
