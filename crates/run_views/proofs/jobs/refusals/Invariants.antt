use Rattle.std.proofs.Common.{◌≡◌, ◌++◌, drop}
use Rattle.run_views.specs.Jobs.{refusals}
use Rattle.run_views.proofs.jobs.refusals.Given as goal

-- the numbers so far, and those of the entries that are left, are those of all
abbrev pub invariant-loop-entry : goal.invariant-loop-entry
invariant-loop-entry l = l.numbers.items ++ refusals (drop l.entry-index l.entries) ≡ refusals l.entries
