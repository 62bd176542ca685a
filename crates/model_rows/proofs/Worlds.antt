-- Words in which worlds are written out.
use Rattle.std.specs.Prelude.{ℕ, false, [], ◌∷◌, codes, Some, None}
use Rattle.session_table.specs.Sessions.{Sessions}
use Rattle.job_template.specs.declared.templates.JobTemplate.{JobTemplate}
use Rattle.drmaa_types.specs.declared.changes.Change.{Change}
use Rattle.drmaa_types.specs.declared.moments.End.TheVariants.{At}
use Rattle.drmaa_types.specs.declared.sessions.SessionKind.TheVariants as kind
use Rattle.drmaa_types.specs.declared.states.Exit.TheVariants.{Code}
use Rattle.drmaa_types.specs.declared.states.JobState.{JobState}
use Rattle.drmaa_types.specs.declared.states.JobState.TheVariants.{Queued, Running, Done}
use Rattle.drmaa_types.specs.declared.states.Note.TheVariants as note
use Rattle.drmaa_types.specs.declared.states.SignalKind.{SignalKind}
use Rattle.drmaa_model.specs.declared.courses.Course.{Course}
use Rattle.drmaa_model.specs.declared.courses.Kill.TheVariants as kill
use Rattle.drmaa_model.specs.declared.courses.Order.{Order}
use Rattle.drmaa_model.specs.declared.courses.Phase.TheVariants.{Idle, Launching, Alive}
use Rattle.drmaa_model.specs.declared.rows.Row.{Row}
use Rattle.drmaa_model.specs.Courses.{wants_of}
use Rattle.drmaa_model.specs.Plan.{Plan}
use Rattle.drmaa_model.specs.Submitting.{alone}
use Rattle.drmaa_model.specs.World.{World}
use Rattle.model_rows.specs.Machines.{node, job}

-- a job of the first session, submitted at 0
abbrev pub row : ℕ → JobTemplate → Course → Row
row number t course = record { job = job number; home = Some 1; template = t; wants = wants_of [] t alone; submitted = 0; course = course }

-- before its launch
abbrev pub queued : Course
queued = record {
  state = Queued;
  phase = Idle;
  attempt = 0;
  held = 0;
  last_slots = None;
  kill = kill.No;
  planned = None;
  dispatched = None;
  finished = None;
  exit = None;
  note = note.None;
}

-- launched at 0 with so many slots until 3
abbrev pub launching : ℕ → Course
launching slots = record queued {
  state = Running;
  phase = Launching;
  attempt = 1;
  held = slots;
  last_slots = Some slots;
  planned = Some (At 3);
  dispatched = Some 0;
}

abbrev pub alive : ℕ → Course
alive slots = record (launching slots) { phase = Alive }

-- it has ended at 0 by code 0
abbrev pub done : Course → Course
done course = record course { state = Done; phase = Idle; held = 0; planned = None; finished = Some 0; exit = Some (Code 0) }

-- of a job of the first session
abbrev pub change : ℕ → ℕ → JobState → JobState → Change
change entry number from to = record { entry = entry; job = job number; home = Some 1; from = from; to = to }

abbrev pub order : ℕ → SignalKind → Order
order number kind = record { job = job number; kind = kind; taken = false }

-- the one session, `s`
abbrev pub one_session : Sessions
one_session = record {
  named = record { home = 1; kind = kind.Jobs; name = codes "s" } ∷ [];
  valid = record { number = 1; kind = kind.Jobs; home = Some 1 } ∷ [];
  next_session = 2;
  next_home = 2;
}

-- no job as yet
abbrev pub empty_plan : Plan
empty_plan = record {
  total = 4;
  queues = [];
  moment = 0;
  rows = [];
  reservations = [];
  orders = [];
  changes = [];
  next_job = 1;
  next_array = 1;
  next_reservation = 1;
}

-- after so many entries
abbrev pub world : ℕ → Plan → World
world entries plan = record { config = node; plan = plan; sessions = one_session; entries = entries; registrations = 0 }
