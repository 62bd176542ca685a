use Rattle.std.proofs.Common.{◌≡◌, ◌++◌, drop, map}
use Rattle.run_views.specs.Told.{changed}
use Rattle.run_views.proofs.job_events.push_changes.Given as goal

-- what was told so far, and what the changes that are left tell, is all that is told
abbrev pub invariant-loop-change : goal.invariant-loop-change
invariant-loop-change l = l.events.items ++ map (changed l.moments) (drop l.change-index l.changes) ≡ l.fn.events.items ++ map (changed l.moments) l.changes
