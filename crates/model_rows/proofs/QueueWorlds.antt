-- The worlds of the histories of queues.
use Rattle.std.specs.Prelude.{ℕ, List, [], ◌∷◌, codes, Some, None}
use Rattle.session_table.specs.Sessions.{Sessions}
use Rattle.job_template.specs.declared.templates.JobTemplate.{JobTemplate}
use Rattle.drmaa_types.specs.declared.sessions.SessionKind.TheVariants as kind
use Rattle.drmaa_types.specs.declared.states.JobState.TheVariants.{Queued, Running, Done}
use Rattle.drmaa_model.specs.declared.courses.Course.{Course}
use Rattle.drmaa_model.specs.declared.reservations.Accepted.{Accepted}
use Rattle.drmaa_model.specs.declared.rows.Row.{Row}
use Rattle.drmaa_model.specs.Courses.{wants_of}
use Rattle.drmaa_model.specs.Plan.{Plan}
use Rattle.drmaa_model.specs.Submitting.{alone}
use Rattle.drmaa_model.specs.World.{World}
use Rattle.model_rows.specs.Machines.{plain, reservation}
use Rattle.model_rows.specs.Queues.{short_and_long, queued_node, long_pair, inside}
use Rattle.model_rows.proofs.Worlds.{row, queued, launching, done, change, one_session, empty_plan, world}

-- a job of one of the queues
abbrev queued_row : ℕ → JobTemplate → Course → Row
queued_row number t course = record (row number t course) { wants = wants_of short_and_long t alone }

abbrev queued_plan : Plan
queued_plan = record empty_plan { queues = short_and_long }

abbrev queued_world : ℕ → Plan → World
queued_world entries plan = record (world entries plan) { config = queued_node }

-- ---- limits

abbrev three : Course → Course → Course → Plan
three first second third = record queued_plan { rows = queued_row 1 plain first ∷ queued_row 2 plain second ∷ queued_row 3 long_pair third ∷ []; next_job = 4 }

abbrev pub limited : List World
limited =
    queued_world 1 queued_plan ∷
    queued_world 2 (record queued_plan { rows = queued_row 1 plain queued ∷ []; next_job = 2 }) ∷
    queued_world 3 (record queued_plan { rows = queued_row 1 plain queued ∷ queued_row 2 plain queued ∷ []; next_job = 3 }) ∷
    queued_world 4 (three queued queued queued) ∷
    queued_world 5 (record (three (launching 1) queued queued) { changes = change 5 1 Queued Running ∷ [] }) ∷
    queued_world 6 (record (three (launching 1) queued (launching 2)) { changes = change 5 1 Queued Running ∷ change 6 3 Queued Running ∷ [] }) ∷ []

abbrev second_begun : Plan
second_begun = record (three (done (launching 1)) (launching 1) (launching 2)) {
  changes = change 5 1 Queued Running ∷ change 6 3 Queued Running ∷ change 7 1 Running Done ∷ change 8 2 Queued Running ∷ [];
}

abbrev watched : ℕ → World
watched entries = record (queued_world entries second_begun) {
  sessions = record one_session {
    valid = record { number = 1; kind = kind.Jobs; home = Some 1 } ∷ record { number = 2; kind = kind.Monitoring; home = None } ∷ [];
    next_session = 3;
  };
}

abbrev pub waiting : List World
waiting =
    queued_world 7 (record (three (done (launching 1)) queued (launching 2)) {
      changes = change 5 1 Queued Running ∷ change 6 3 Queued Running ∷ change 7 1 Running Done ∷ [];
    }) ∷
    queued_world 8 second_begun ∷ watched 9 ∷ watched 10 ∷ []

-- ---- reservations

abbrev two_sessions : Sessions
two_sessions = record {
  named = record { home = 1; kind = kind.Jobs; name = codes "s" } ∷ record { home = 2; kind = kind.Reservations; name = codes "q" } ∷ [];
  valid = record { number = 1; kind = kind.Jobs; home = Some 1 } ∷ record { number = 2; kind = kind.Reservations; home = Some 2 } ∷ [];
  next_session = 3;
  next_home = 3;
}

abbrev both : ℕ → Plan → World
both entries plan = record (queued_world entries plan) { sessions = two_sessions }

abbrev accepted : Accepted
accepted = record { reservation = reservation 1; home = Some 2; name = None; slots = 2; from = 0; until = 3 }

abbrev booked : Plan
booked = record queued_plan { reservations = accepted ∷ []; next_reservation = 2 }

abbrev pair : Course → Course → Plan
pair first second = record booked { rows = queued_row 1 inside first ∷ queued_row 2 plain second ∷ []; next_job = 3 }

abbrev both_begun : Plan
both_begun = record (pair (launching 2) (launching 1)) { changes = change 6 1 Queued Running ∷ change 7 2 Queued Running ∷ [] }

abbrev pub free : List World
free =
    queued_world 1 queued_plan ∷ both 2 queued_plan ∷ both 3 booked ∷
    both 4 (record booked { rows = queued_row 1 inside queued ∷ []; next_job = 2 }) ∷
    both 5 (pair queued queued) ∷
    both 6 (record (pair (launching 2) queued) { changes = change 6 1 Queued Running ∷ [] }) ∷
    both 7 both_begun ∷ both 8 both_begun ∷ []
