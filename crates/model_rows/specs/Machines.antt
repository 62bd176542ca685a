-- Words in which the histories of this crate are written.
use Rattle.std.specs.Prelude.{ℕ, true, false, List, [], ◌∷◌, codes, Some, None}
use Rattle.job_template.specs.declared.templates.JobTemplate.{JobTemplate}
use Rattle.job_template.specs.declared.templates.ReservationTemplate.{ReservationTemplate}
use Rattle.drmaa_types.specs.declared.template_parts.Start.TheVariants as start
use Rattle.drmaa_types.specs.declared.filters.JobFilter.{JobFilter}
use Rattle.drmaa_types.specs.declared.identifiers.ArrayId.{ArrayId}
use Rattle.drmaa_types.specs.declared.identifiers.JobId.{JobId}
use Rattle.drmaa_types.specs.declared.identifiers.ReservationId.{ReservationId}
use Rattle.drmaa_types.specs.declared.identifiers.SessionId.{SessionId}
use Rattle.drmaa_types.specs.declared.states.Control.{Control}
use Rattle.drmaa_types.specs.declared.states.Exit.{Exit}
use Rattle.drmaa_types.specs.declared.states.JobState.{JobState}
use Rattle.drmaa_model.specs.declared.calls.Call.{Call}
use Rattle.drmaa_model.specs.declared.calls.Call.TheVariants as call
use Rattle.drmaa_model.specs.declared.calls.Target.TheVariants as target
use Rattle.drmaa_model.specs.declared.configs.Config.{Config}
use Rattle.drmaa_model.specs.declared.entries.Entry.{Entry}
use Rattle.drmaa_model.specs.declared.replies.Reply.{Reply}
use Rattle.drmaa_model.specs.declared.replies.Reply.TheVariants as reply

-- four slots, named node1, on which jobs can be suspended, without queues
abbrev pub node : Config
node = record { slots = 4; name = codes "node1"; suspend = true; journal = 4_000_000; queues = [] }

-- an entry: who called, at which moment, what, and the reply
abbrev pub entry : ℕ → ℕ → Call → Reply → Entry
entry caller at call told = record { caller = record { 0 = caller }; at = at; call = call; reply = told }

abbrev pub session : ℕ → SessionId
session n = record { 0 = n }

abbrev pub job : ℕ → JobId
job n = record { 0 = n }

abbrev pub array : ℕ → ArrayId
array n = record { 0 = n }

abbrev pub reservation : ℕ → ReservationId
reservation n = record { 0 = n }

-- A job that runs `true`, of at most 3 seconds: the calendar is asked for each of them, so that a history can be computed.
abbrev pub plain : JobTemplate
plain = record {
  remote_command = codes "true";
  args = [];
  submit_as_hold = false;
  rerunnable = false;
  job_environment = [];
  working_directory = None;
  job_name = None;
  input_path = None;
  output_path = None;
  error_path = None;
  join_files = false;
  reservation_id = None;
  queue_name = None;
  min_slots = None;
  max_slots = None;
  priority = None;
  start_time = None;
  deadline_time = None;
  resource_limits = record { name = codes "WALLCLOCK_TIME"; value = 3 } ∷ [];
  others = [];
}

-- with another limit, and with other slots
abbrev pub limited : ℕ → JobTemplate → JobTemplate
limited seconds t = record t { resource_limits = record { name = codes "WALLCLOCK_TIME"; value = seconds } ∷ [] }

abbrev pub wide : ℕ → JobTemplate → JobTemplate
wide slots t = record t { min_slots = Some slots }

-- the words that start it
abbrev pub true_words : List (List ℕ)
true_words = [] ∷ [] ∷ [] ∷ [] ∷ codes "apart" ∷ codes "0" ∷ codes "true" ∷ []

-- a launch of such a job: its number, its attempt, its slots
abbrev pub launch : ℕ → ℕ → ℕ → Reply
launch number attempt slots = reply.Launch (record { job = job number; attempt = attempt; slots = slots; words = true_words })

-- a request for slots that says nothing else
abbrev pub slots_asked : ReservationTemplate
slots_asked = record {
  reservation_name = None;
  start_time = None;
  end_time = None;
  duration = None;
  min_slots = None;
  max_slots = None;
  others = [];
}

-- from one moment up to another
abbrev pub exactly : ℕ → ℕ → ReservationTemplate → ReservationTemplate
exactly from until t = record t { start_time = Some (start.At from); end_time = Some until }

-- a filter that lets every job through, and one by the state
abbrev pub any_job : JobFilter
any_job = record {
  job = None;
  name = None;
  state = None;
  slots = None;
  queue = None;
  status = None;
  wallclock = None;
  submitted = None;
  dispatched = None;
  finished = None;
}

abbrev pub in_state : JobState → JobFilter
in_state state = record any_job { state = Some state }

-- a job session named `s`, the first of all sessions
abbrev pub opened : Entry
opened = entry 1 0 (call.CreateJobSession (Some (codes "s"))) (reply.Session (session 1))

-- ---- entries at 0

-- a job of the session, from this template
abbrev pub run : JobTemplate → ℕ → Entry
run t number = entry 1 0 (call.RunJob (session 1) t) (reply.Job (job number))

abbrev pub controlled : ℕ → Control → Reply → Entry
controlled number what told = entry 1 0 (call.Control (session 1) (target.Job (job number)) what) told

abbrev pub has_state : ℕ → JobState → Entry
has_state number s = entry 1 0 (call.GetState (session 1) (job number)) (reply.State s)

abbrev pub launched : ℕ → ℕ → ℕ → Entry
launched number attempt slots = entry 2 0 call.TakeLaunch (launch number attempt slots)

abbrev pub started : ℕ → Entry
started number = entry 2 0 (call.Started (job number) 1) reply.Unit

abbrev pub exited : ℕ → ℕ → Exit → Entry
exited number attempt exit = entry 3 0 (call.Exited (job number) attempt exit) reply.Unit
