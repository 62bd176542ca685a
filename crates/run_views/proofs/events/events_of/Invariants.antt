use Rattle.std.proofs.Common.{◌≡◌, ◌++◌, drop}
use Rattle.run_views.specs.Runs.{events_from}
use Rattle.run_views.proofs.events.events_of.Given as goal

-- what was told so far, and what the entries that are left tell from now on, is what all tell
abbrev pub invariant-loop-entry : goal.invariant-loop-entry
invariant-loop-entry l = l.events.items ++ events_from l.now (drop l.entry-index l.entries) ≡ events_from 0 l.entries
