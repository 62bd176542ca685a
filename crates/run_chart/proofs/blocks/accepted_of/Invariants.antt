use Rattle.std.proofs.Common.{◌≡◌, ◌++◌, drop}
use Rattle.run_chart.specs.Blocks.{accepted_of}
use Rattle.run_chart.proofs.blocks.accepted_of.Given as goal

-- the reservations so far, and those of the entries that are left, are all
abbrev pub invariant-loop-entry : goal.invariant-loop-entry
invariant-loop-entry l = l.accepted.items ++ accepted_of (drop l.entry-index l.entries) ≡ accepted_of l.entries
