-- Queues with limits on the slots of their jobs.
use Rattle.std.specs.Prelude.{ℕ, List, [], ◌∷◌, codes, Some, None}
use Rattle.job_template.specs.declared.templates.JobTemplate.{JobTemplate}
use Rattle.job_template.specs.declared.templates.ReservationTemplate.{ReservationTemplate}
use Rattle.drmaa_types.specs.declared.infos.JobInfo.{JobInfo}
use Rattle.drmaa_types.specs.declared.queues.QueueSpec.{QueueSpec}
use Rattle.drmaa_types.specs.declared.refusals.Attribute.TheVariants as attribute
use Rattle.drmaa_types.specs.declared.refusals.Refusal.TheVariants.{InvalidArgument, UnsupportedAttribute}
use Rattle.drmaa_types.specs.declared.refusals.Which.TheVariants as which
use Rattle.drmaa_types.specs.declared.states.Exit.TheVariants.{Code}
use Rattle.drmaa_types.specs.declared.states.JobState.TheVariants.{Running}
use Rattle.drmaa_types.specs.declared.states.Note.TheVariants as note
use Rattle.drmaa_model.specs.declared.calls.Call.TheVariants as call
use Rattle.drmaa_model.specs.declared.configs.Config.{Config}
use Rattle.drmaa_model.specs.declared.entries.Entry.{Entry}
use Rattle.drmaa_model.specs.declared.replies.Reply.TheVariants as reply
use Rattle.model_rows.specs.Machines.{node, entry, session, job, reservation, plain, wide, opened, run, launched, exited, slots_asked, exactly}
use Rattle.model_rows.specs.Reservations.{reserved, opened_q}

-- one slot for jobs of the first queue, three for those of the second
abbrev pub short_and_long : List QueueSpec
short_and_long = record { name = codes "short"; limit = 1 } ∷ record { name = codes "long"; limit = 3 } ∷ []

abbrev pub queued_node : Config
queued_node = record node { queues = short_and_long }

-- a job that names its queue
abbrev pub of_queue : List ℕ → JobTemplate → JobTemplate
of_queue name t = record t { queue_name = Some name }

abbrev pub long_pair : JobTemplate
long_pair = of_queue (codes "long") (wide 2 plain)

-- ---- limits

-- Jobs 1 and 2 name no queue, so they are of the first, which has one slot. Job 3 is launched before job 2.
abbrev pub up_to_limits : List Entry
up_to_limits = opened ∷ run plain 1 ∷ run plain 2 ∷ run long_pair 3 ∷ launched 1 1 1 ∷ launched 3 1 2 ∷ []

abbrev pub then_the_waiting : List Entry
then_the_waiting =
    exited 1 1 (Code 0) ∷ launched 2 1 1 ∷
    entry 1 0 call.OpenMonitoring (reply.Session (session 2)) ∷
    entry 1 0 (call.AllQueues (session 2)) (reply.Names (codes "short" ∷ codes "long" ∷ [])) ∷ []

-- ---- refusals

-- no queue has that name; the queue has fewer slots than the job asks for
abbrev pub wrong_queues : List Entry
wrong_queues =
    opened ∷
    entry 1 0 (call.RunJob (session 1) (of_queue (codes "x") plain)) (reply.Refused (InvalidArgument which.QueueName)) ∷
    entry 1 0 (call.RunJob (session 1) (of_queue (codes "short") (wide 2 plain))) (reply.Refused (InvalidArgument which.MinSlots)) ∷
    entry 1 0 (call.RunJob (session 1) (wide 2 plain)) (reply.Refused (InvalidArgument which.MinSlots)) ∷
    run long_pair 1 ∷ []

-- without queues none may be named
abbrev pub no_queues : List Entry
no_queues = opened ∷ entry 1 0 (call.RunJob (session 1) (of_queue (codes "short") plain)) (reply.Refused (UnsupportedAttribute attribute.QueueName)) ∷ []

-- ---- reservations

-- two slots from 0 to 3
abbrev pub two_slots : ReservationTemplate
two_slots = record (exactly 0 3 slots_asked) { min_slots = Some 2 }

abbrev pub inside : JobTemplate
inside = record (wide 2 plain) { reservation_id = Some (reservation 1) }

abbrev pub inside_info : JobInfo
inside_info = record {
  job = job 1;
  session = Some (codes "s");
  name = None;
  array = None;
  index = None;
  state = Running;
  slots = Some 2;
  queue = codes "short";
  wallclock = Some 0;
  submitted = 0;
  dispatched = Some 0;
  finished = None;
  exit = None;
  note = note.None;
}

-- Job 1 holds two slots of its reservation, twice what its queue has; job 2 is an ordinary one of the same queue.
abbrev pub unbound : List Entry
unbound =
    opened ∷ opened_q ∷
    entry 1 0 (call.RequestReservation (session 2) two_slots) (reserved 1 2 0 3) ∷
    run inside 1 ∷ run plain 2 ∷ launched 1 1 2 ∷ launched 2 1 1 ∷
    entry 1 0 (call.GetInfo (session 1) (job 1)) (reply.Info inside_info) ∷ []
