-- The worlds of the histories of reservations.
use Rattle.std.specs.Prelude.{ℕ, true, List, [], ◌∷◌, codes, Some, None}
use Rattle.session_table.specs.Sessions.{Sessions, NamedSession, ValidNumber}
use Rattle.drmaa_types.specs.declared.moments.End.TheVariants.{At}
use Rattle.drmaa_types.specs.declared.sessions.SessionKind.TheVariants as kind
use Rattle.drmaa_types.specs.declared.states.Exit.TheVariants.{Signal}
use Rattle.drmaa_types.specs.declared.states.JobState.TheVariants.{Queued, Running, Failed}
use Rattle.drmaa_types.specs.declared.states.Note.TheVariants as note
use Rattle.drmaa_types.specs.declared.states.SignalKind.TheVariants as signal
use Rattle.drmaa_model.specs.declared.courses.Course.{Course}
use Rattle.drmaa_model.specs.declared.courses.Kill.TheVariants as kill
use Rattle.drmaa_model.specs.declared.courses.Phase.TheVariants.{Idle, Alive}
use Rattle.drmaa_model.specs.declared.reservations.Accepted.{Accepted}
use Rattle.drmaa_model.specs.declared.rows.Row.{Row}
use Rattle.drmaa_model.specs.Plan.{Plan}
use Rattle.drmaa_model.specs.World.{World}
use Rattle.model_rows.specs.Machines.{reservation}
use Rattle.model_rows.specs.Reservations.{all_slots, inside}
use Rattle.model_rows.proofs.Worlds.{row, queued, launching, change, order, empty_plan, world}

-- `s` and `q`
abbrev named_s : NamedSession
named_s = record { home = 1; kind = kind.Jobs; name = codes "s" }

abbrev named_q : NamedSession
named_q = record { home = 2; kind = kind.Reservations; name = codes "q" }

abbrev number_s : ValidNumber
number_s = record { number = 1; kind = kind.Jobs; home = Some 1 }

abbrev number_q : ℕ → ValidNumber
number_q n = record { number = n; kind = kind.Reservations; home = Some 2 }

abbrev number_m : ValidNumber
number_m = record { number = 3; kind = kind.Monitoring; home = None }

abbrev two_sessions : Sessions
two_sessions = record { named = named_s ∷ named_q ∷ []; valid = number_s ∷ number_q 2 ∷ []; next_session = 3; next_home = 3 }

abbrev pub both : ℕ → Plan → World
both entries plan = record (world entries plan) { sessions = two_sessions }

-- all four slots
abbrev pub accepted : ℕ → ℕ → Accepted
accepted from until = record { reservation = reservation 1; home = Some 2; name = None; slots = 4; from = from; until = until }

-- ---- a job that is in the way

abbrev one : Course → Plan
one course = record empty_plan { rows = row 1 all_slots course ∷ []; next_job = 2 }

abbrev until_two : Course
until_two = record (launching 4) { planned = Some (At 2) }

abbrev begun : Course → Plan
begun course = record (one course) { changes = change 4 1 Queued Running ∷ [] }

abbrev alive_two : Course
alive_two = record until_two { phase = Alive }

abbrev reserved : Course → Plan
reserved course = record (begun course) { reservations = accepted 3 5 ∷ []; next_reservation = 2 }

abbrev asked : Course
asked = record alive_two { kill = kill.Asked; note = note.PastLimit }

abbrev second : Course → Row
second course = record (row 2 inside course) { submitted = 3 }

abbrev waits : Plan
waits = record (reserved asked) { moment = 3; rows = row 1 all_slots asked ∷ second queued ∷ []; next_job = 3 }

abbrev pub blocking : List World
blocking =
    world 1 empty_plan ∷ both 2 empty_plan ∷ both 3 (one queued) ∷ both 4 (begun until_two) ∷ both 5 (begun alive_two) ∷ both 6 (reserved alive_two) ∷
    both 7 (record (reserved asked) { moment = 2; orders = record (order 1 signal.Kill) { taken = true } ∷ [] }) ∷
    both 8 (record (reserved asked) { moment = 2 }) ∷ both 9 waits ∷ []

abbrev killed : Course
killed = record asked { state = Failed; phase = Idle; held = 0; planned = None; finished = Some 3; exit = Some (Signal 9) }

abbrev pub passing : List World
passing =
    both 10 (record waits { rows = row 1 all_slots killed ∷ second queued ∷ []; changes = change 4 1 Queued Running ∷ change 10 1 Running Failed ∷ [] }) ∷
    both 11 (record waits {
      rows = row 1 all_slots killed ∷ second (record (launching 4) { planned = Some (At 5); dispatched = Some 3 }) ∷ [];
      changes = change 4 1 Queued Running ∷ change 10 1 Running Failed ∷ change 11 2 Queued Running ∷ [];
    }) ∷ []

-- ---- what is told

abbrev watched : ℕ → Plan → World
watched entries plan = record (world entries plan) {
  sessions = record { named = named_s ∷ named_q ∷ []; valid = number_s ∷ number_q 2 ∷ number_m ∷ []; next_session = 4; next_home = 3 };
}

abbrev booked : Plan
booked = record empty_plan { reservations = accepted 10 20 ∷ []; next_reservation = 2 }

abbrev ended : Plan
ended = record empty_plan { next_reservation = 2 }

abbrev destroyed : ℕ → World
destroyed entries = record (world entries ended) { sessions = record { named = named_s ∷ []; valid = number_s ∷ number_m ∷ []; next_session = 5; next_home = 3 } }

abbrev pub telling : List World
telling =
    world 1 empty_plan ∷ both 2 empty_plan ∷ watched 3 empty_plan ∷ watched 4 booked ∷ watched 5 booked ∷ watched 6 booked ∷ watched 7 booked ∷
    watched 8 ended ∷ watched 9 ended ∷ watched 10 ended ∷
    record (world 11 ended) {
      sessions = record { named = named_s ∷ named_q ∷ []; valid = number_s ∷ number_q 2 ∷ number_m ∷ number_q 4 ∷ []; next_session = 5; next_home = 3 };
    } ∷
    destroyed 12 ∷ destroyed 13 ∷ []
