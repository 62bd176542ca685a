-- The worlds of the forecasts.
use Rattle.std.specs.Prelude.{ℕ, ◌+◌, List, [], ◌∷◌, codes, Some, None}
use Rattle.session_table.specs.Sessions.{NamedSession, ValidNumber}
use Rattle.drmaa_types.specs.declared.changes.Change.{Change}
use Rattle.drmaa_types.specs.declared.moments.End.TheVariants.{At}
use Rattle.drmaa_types.specs.declared.sessions.SessionKind.TheVariants as kind
use Rattle.drmaa_types.specs.declared.states.Exit.TheVariants.{Code}
use Rattle.drmaa_types.specs.declared.states.JobState.{JobState}
use Rattle.drmaa_types.specs.declared.states.JobState.TheVariants.{Queued, Running, Failed}
use Rattle.drmaa_types.specs.declared.states.Note.TheVariants as note
use Rattle.drmaa_model.specs.declared.calls.Call.TheVariants as call
use Rattle.drmaa_model.specs.declared.courses.Course.{Course}
use Rattle.drmaa_model.specs.declared.courses.Kill.TheVariants as kill
use Rattle.drmaa_model.specs.declared.courses.Phase.TheVariants.{Idle, Launching}
use Rattle.drmaa_model.specs.declared.entries.Entry.{Entry}
use Rattle.drmaa_model.specs.declared.replies.Reply.TheVariants as reply
use Rattle.drmaa_model.specs.declared.reservations.Accepted.{Accepted}
use Rattle.drmaa_model.specs.declared.rows.Row.{Row}
use Rattle.drmaa_model.specs.Courses.{wants_of}
use Rattle.drmaa_model.specs.Plan.{Plan}
use Rattle.drmaa_model.specs.Submitting.{alone}
use Rattle.drmaa_model.specs.World.{World}
use Rattle.forecast_rows.specs.Histories.{node, job, reservation, work, launch}

-- ---- jobs

abbrev row : ℕ → Course → Row
row number course = record { job = job number; home = Some 1; template = work; wants = wants_of [] work alone; submitted = 0; course = course }

abbrev queued : Course
queued = record {
  state = Queued;
  phase = Idle;
  attempt = 0;
  held = 0;
  last_slots = None;
  kill = kill.No;
  planned = None;
  dispatched = None;
  finished = None;
  exit = None;
  note = note.None;
}

-- launched at a moment, for 50 seconds
abbrev running : ℕ → Course
running moment = record queued {
  state = Running;
  phase = Launching;
  attempt = 1;
  held = 4;
  last_slots = Some 4;
  planned = Some (At (moment + 50));
  dispatched = Some moment;
}

-- ended at the end of its time
abbrev over : ℕ → Course
over moment = record (running moment) {
  state = Failed;
  phase = Idle;
  held = 0;
  planned = None;
  kill = kill.Asked;
  finished = Some (moment + 50);
  exit = Some (Code 0);
  note = note.PastLimit;
}

abbrev change : ℕ → ℕ → JobState → JobState → Change
change entry number from to = record { entry = entry; job = job number; home = Some 1; from = from; to = to }

-- ---- worlds

abbrev named_s : NamedSession
named_s = record { home = 1; kind = kind.Jobs; name = codes "s" }

abbrev named_q : NamedSession
named_q = record { home = 2; kind = kind.Reservations; name = codes "q" }

abbrev number_s : ValidNumber
number_s = record { number = 1; kind = kind.Jobs; home = Some 1 }

abbrev number_q : ValidNumber
number_q = record { number = 2; kind = kind.Reservations; home = Some 2 }

abbrev plan : ℕ → Course → Course → List Change → Plan
plan moment first second changes = record {
  total = 4;
  queues = [];
  moment = moment;
  rows = row 1 first ∷ row 2 second ∷ [];
  reservations = [];
  orders = [];
  changes = changes;
  next_job = 3;
  next_array = 1;
  next_reservation = 1;
}

-- two jobs alone
abbrev jobs : ℕ → Plan → World
jobs entries p = record {
  config = node;
  plan = p;
  sessions = record { named = named_s ∷ []; valid = number_s ∷ []; next_session = 2; next_home = 2 };
  entries = entries;
  registrations = 0;
}

abbrev pub jobs_begun : World
jobs_begun = jobs 4 (plan 0 (running 0) queued (change 4 1 Queued Running ∷ []))

abbrev pub jobs_ended : World
jobs_ended = jobs 5 (plan 50 (over 0) queued (change 4 1 Queued Running ∷ change 5 1 Running Failed ∷ []))

abbrev pub jobs_launched : World
jobs_launched = jobs 6 (plan 50 (over 0) (running 50) (change 4 1 Queued Running ∷ change 5 1 Running Failed ∷ change 6 2 Queued Running ∷ []))

abbrev pub jobs_over : World
jobs_over = jobs 7 (plan 100 (over 0) (over 50) (change 4 1 Queued Running ∷ change 5 1 Running Failed ∷ change 6 2 Queued Running ∷ change 7 2 Running Failed ∷ []))

-- two jobs beside a reservation, as long as it lasts
abbrev accepted : Accepted
accepted = record { reservation = reservation 1; home = Some 2; name = None; slots = 4; from = 60; until = 100 }

abbrev beside : ℕ → List Accepted → Plan → World
beside entries rs p = record {
  config = node;
  plan = record p { reservations = rs; next_reservation = 2 };
  sessions = record { named = named_s ∷ named_q ∷ []; valid = number_s ∷ number_q ∷ []; next_session = 3; next_home = 3 };
  entries = entries;
  registrations = 0;
}

abbrev pub beside_begun : World
beside_begun = beside 6 (accepted ∷ []) (plan 0 (running 0) queued (change 6 1 Queued Running ∷ []))

abbrev pub beside_ended : World
beside_ended = beside 7 (accepted ∷ []) (plan 50 (over 0) queued (change 6 1 Queued Running ∷ change 7 1 Running Failed ∷ []))

abbrev pub beside_launched : World
beside_launched = beside 8 [] (plan 100 (over 0) (running 100) (change 6 1 Queued Running ∷ change 7 1 Running Failed ∷ change 8 2 Queued Running ∷ []))

abbrev pub beside_over : World
beside_over = beside 9 [] (plan 150 (over 0) (over 100) (change 6 1 Queued Running ∷ change 7 1 Running Failed ∷ change 8 2 Queued Running ∷ change 9 2 Running Failed ∷ []))

-- ---- entries

abbrev pub end_at : ℕ → ℕ → Entry
end_at moment number = record { caller = record { 0 = 0 }; at = moment; call = call.Exited (job number) 1 (Code 0); reply = reply.Unit }

abbrev pub launch_at : ℕ → ℕ → Entry
launch_at moment number = record { caller = record { 0 = 0 }; at = moment; call = call.TakeLaunch; reply = launch number }
