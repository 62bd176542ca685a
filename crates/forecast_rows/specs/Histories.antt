-- Histories that were worked out by hand.
use Rattle.std.specs.Prelude.{ℕ, true, false, List, [], ◌∷◌, codes, Some, None}
use Rattle.job_template.specs.declared.templates.JobTemplate.{JobTemplate}
use Rattle.job_template.specs.declared.templates.ReservationTemplate.{ReservationTemplate}
use Rattle.drmaa_types.specs.declared.template_parts.Start.TheVariants as start
use Rattle.drmaa_types.specs.declared.identifiers.JobId.{JobId}
use Rattle.drmaa_types.specs.declared.identifiers.ReservationId.{ReservationId}
use Rattle.drmaa_types.specs.declared.identifiers.SessionId.{SessionId}
use Rattle.drmaa_model.specs.declared.calls.Call.{Call}
use Rattle.drmaa_model.specs.declared.calls.Call.TheVariants as call
use Rattle.drmaa_model.specs.declared.configs.Config.{Config}
use Rattle.drmaa_model.specs.declared.entries.Entry.{Entry}
use Rattle.drmaa_model.specs.declared.replies.Reply.{Reply}
use Rattle.drmaa_model.specs.declared.replies.Reply.TheVariants as reply
use Rattle.forecast.specs.declared.predictions.Predicted.{Predicted}

-- four slots, named node1, on which jobs can be suspended, without queues
abbrev pub node : Config
node = record { slots = 4; name = codes "node1"; suspend = true; journal = 4_000_000; queues = [] }

-- an entry at 0: who called, what, and the reply
abbrev pub entry : ℕ → Call → Reply → Entry
entry caller call told = record { caller = record { 0 = caller }; at = 0; call = call; reply = told }

abbrev pub session : ℕ → SessionId
session n = record { 0 = n }

abbrev pub job : ℕ → JobId
job n = record { 0 = n }

abbrev pub reservation : ℕ → ReservationId
reservation n = record { 0 = n }

-- a job that asks for all four slots, for at most 50 seconds
abbrev pub work : JobTemplate
work = record {
  remote_command = codes "work";
  args = [];
  submit_as_hold = false;
  rerunnable = false;
  job_environment = [];
  working_directory = None;
  job_name = None;
  input_path = None;
  output_path = None;
  error_path = None;
  join_files = false;
  reservation_id = None;
  queue_name = None;
  min_slots = Some 4;
  max_slots = None;
  priority = None;
  start_time = None;
  deadline_time = None;
  resource_limits = record { name = codes "WALLCLOCK_TIME"; value = 50 } ∷ [];
  others = [];
}

abbrev pub opened : Entry
opened = entry 1 (call.CreateJobSession (Some (codes "s"))) (reply.Session (session 1))

abbrev pub run : ℕ → Entry
run number = entry 1 (call.RunJob (session 1) work) (reply.Job (job number))

-- the launch of such a job, its first, on all slots
abbrev pub launch : ℕ → Reply
launch number = reply.Launch (record { job = job number; attempt = 1; slots = 4; words = [] ∷ [] ∷ [] ∷ [] ∷ codes "apart" ∷ codes "0" ∷ codes "work" ∷ [] })

abbrev pub launched : ℕ → Entry
launched number = entry 2 call.TakeLaunch (launch number)

-- Two such jobs; the first was launched.
abbrev pub two_jobs : List Entry
two_jobs = opened ∷ run 1 ∷ run 2 ∷ launched 1 ∷ []

-- all four slots from 60 to 100
abbrev pub whole_machine : ReservationTemplate
whole_machine = record {
  reservation_name = None;
  start_time = Some (start.At 60);
  end_time = Some 100;
  duration = None;
  min_slots = Some 4;
  max_slots = None;
  others = [];
}

-- The same two jobs, behind a reservation of the whole machine.
abbrev pub beside_reservation : List Entry
beside_reservation =
    opened ∷
    entry 1 (call.CreateReservationSession (Some (codes "q"))) (reply.Session (session 2)) ∷
    entry 1 (call.RequestReservation (session 2) whole_machine) (reply.Reserved (record { reservation = reservation 1; slots = 4; from = 60; until = 100 })) ∷
    run 1 ∷ run 2 ∷ launched 1 ∷ []

-- job 2 starts then, on all slots
abbrev pub second_starts : ℕ → List Predicted
second_starts moment = record { job = job 2; at = moment; slots = 4 } ∷ []
