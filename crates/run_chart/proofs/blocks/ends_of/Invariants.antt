use Rattle.std.proofs.Common.{◌≡◌, ℕ, drop}
use Rattle.run_chart.specs.Blocks.{end_in, end_from, end_of}
use Rattle.run_chart.proofs.blocks.ends_of.Given as goal

-- the ends so far, and those of the entries that are left from now on, are all
abbrev pub invariant-loop-entry : goal.invariant-loop-entry
invariant-loop-entry l = (n : ℕ) → end_from n l.now (end_in l.ends n) (drop l.entry-index l.entries) ≡ end_of l.entries n
