use Rattle.std.proofs.Common.{◌≡◌, ℕ, drop}
use Rattle.run_views.specs.Tables.{tale_in}
use Rattle.run_views.specs.Told.{tale_from, tale_of}
use Rattle.run_views.proofs.tales.tales_of.Given as goal

-- what is told so far of each job, with the events that are left, is what all tell
abbrev pub invariant-loop-event : goal.invariant-loop-event
invariant-loop-event l = (job : ℕ) → tale_from job (tale_in l.tales job) (drop l.event-index l.events) ≡ tale_of job l.events
