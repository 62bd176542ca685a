-- The worlds of the history of monitoring.
use Rattle.std.specs.Prelude.{ℕ, List, [], ◌∷◌, Some, None}
use Rattle.session_table.specs.Sessions.{ValidNumber}
use Rattle.drmaa_types.specs.declared.sessions.SessionKind.TheVariants as kind
use Rattle.drmaa_types.specs.declared.states.JobState.TheVariants.{Queued, Running, Done}
use Rattle.drmaa_model.specs.declared.courses.Course.{Course}
use Rattle.drmaa_model.specs.declared.rows.Row.{Row}
use Rattle.drmaa_model.specs.Plan.{Plan}
use Rattle.drmaa_model.specs.World.{World}
use Rattle.model_rows.specs.Machines.{plain}
use Rattle.model_rows.proofs.Worlds.{row, queued, launching, done, change, one_session, empty_plan, world}

abbrev begun : Plan
begun = record empty_plan { rows = row 1 plain (launching 1) ∷ row 2 plain queued ∷ []; next_job = 3; changes = change 4 1 Queued Running ∷ [] }

abbrev monitor : ValidNumber
monitor = record { number = 2; kind = kind.Monitoring; home = None }

abbrev watched : ℕ → World
watched entries = record (world entries begun) {
  sessions = record one_session { valid = record { number = 1; kind = kind.Jobs; home = Some 1 } ∷ monitor ∷ []; next_session = 3 };
}

-- without its session
abbrev homeless : ℕ → Course → Row
homeless number course = record (row number plain course) { home = None }

abbrev destroyed : ℕ → Plan → World
destroyed entries plan = record (world entries plan) { sessions = record { named = []; valid = monitor ∷ []; next_session = 3; next_home = 2 } }

abbrev exited : Plan
exited = record begun {
  rows = homeless 1 (done (launching 1)) ∷ homeless 2 queued ∷ [];
  changes = change 4 1 Queued Running ∷ record (change 10 1 Running Done) { home = None } ∷ [];
}

abbrev reaped : Plan
reaped = record exited { rows = homeless 2 queued ∷ [] }

abbrev pub watching : List World
watching =
    world 1 empty_plan ∷
    world 2 (record empty_plan { rows = row 1 plain queued ∷ []; next_job = 2 }) ∷
    world 3 (record empty_plan { rows = row 1 plain queued ∷ row 2 plain queued ∷ []; next_job = 3 }) ∷
    world 4 begun ∷ watched 5 ∷ watched 6 ∷ watched 7 ∷ watched 8 ∷
    destroyed 9 (record begun { rows = homeless 1 (launching 1) ∷ homeless 2 queued ∷ [] }) ∷
    destroyed 10 exited ∷ destroyed 11 reaped ∷ destroyed 12 reaped ∷ destroyed 13 reaped ∷ []
