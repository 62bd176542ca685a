use Rattle.std.proofs.Common.{◌≡◌, ◌++◌, drop}
use Rattle.run_views.specs.Told.{told_from}
use Rattle.run_views.proofs.job_events.push_entries.Given as goal

-- what was told so far, and what the entries that are left tell from now on, is all that is told
abbrev pub invariant-loop-entry : goal.invariant-loop-entry
invariant-loop-entry l = l.events.items ++ told_from l.now (drop l.entry-index l.entries) ≡ l.fn.events.items ++ told_from 0 l.entries
