-- What is told of a job, from what is known of it: GFD.231, JobInfo.
use Rattle.std.specs.Prelude.{ℕ, List, Option}
use Rattle.std.specs.Option.{option_and_then}
use Rattle.drmaa_types.specs.declared.identifiers.JobId.{JobId}
use Rattle.drmaa_types.specs.declared.infos.JobInfo.{JobInfo}
use Rattle.drmaa_types.specs.declared.queues.QueueSpec.{QueueSpec}
use Rattle.drmaa_model.specs.declared.rows.Row.{Row}
use Rattle.drmaa_model.specs.Infos.{queue_name}
use Rattle.drmaa_model.specs.Rows.{row_of}
use Rattle.scheduler_core.specs.declared.facts.RowFacts.{RowFacts}
use Rattle.machine_readings.specs.Clocks.{clock_of}

-- the name that the template of a kept job has
abbrev pub name_in : JobId → List Row → Option (List ℕ)
name_in job rows = option_and_then (λ (row : Row). row.template.job_name) (row_of job rows)

-- on a machine with these queues, with the name of its session and its own, at a moment
abbrev pub told_of : List QueueSpec → RowFacts → Option (List ℕ) → Option (List ℕ) → ℕ → JobInfo
told_of queues facts session name moment = record {
  job = facts.job;
  session = session;
  name = name;
  array = facts.array;
  index = facts.index;
  state = facts.state;
  slots = facts.last_slots;
  queue = queue_name queues facts.queue;
  wallclock = clock_of moment facts.state facts.finished facts.dispatched;
  submitted = facts.submitted;
  dispatched = facts.dispatched;
  finished = facts.finished;
  exit = facts.exit;
  note = facts.note;
}
