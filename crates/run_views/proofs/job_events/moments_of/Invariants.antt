use Rattle.std.proofs.Common.{◌≡◌, ◌++◌, drop}
use Rattle.run_views.specs.Told.{moments_from}
use Rattle.run_views.proofs.job_events.moments_of.Given as goal

-- the moments so far, and those of the entries that are left, are those of all
abbrev pub invariant-loop-entry : goal.invariant-loop-entry
invariant-loop-entry l = l.moments.items ++ moments_from l.now (drop l.entry-index l.entries) ≡ moments_from 0 l.entries
