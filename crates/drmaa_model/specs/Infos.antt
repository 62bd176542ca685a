-- What is told of jobs, reservations and the machine: GFD.231, JobInfo, ReservationInfo, MachineInfo; the values are our profile.
use Rattle.std.specs.Prelude.{ℕ, ◌-◌, List, [], ◌∷◌, map, filter, codes, Option, if◌then◌else◌}
use Rattle.std.specs.Option.{option_map, option_map_or, option_and_then}
use Rattle.session_table.specs.Sessions.{Sessions, name_of}
use Rattle.drmaa_types.specs.Filters.{matches}
use Rattle.drmaa_types.specs.Queues.{queue_at}
use Rattle.drmaa_types.specs.declared.queues.QueueSpec.{QueueSpec}
use Rattle.drmaa_types.specs.States.{is_waiting}
use Rattle.drmaa_types.specs.declared.filters.JobFilter.{JobFilter}
use Rattle.drmaa_types.specs.declared.infos.JobInfo.{JobInfo}
use Rattle.drmaa_types.specs.declared.infos.MachineInfo.{MachineInfo}
use Rattle.drmaa_types.specs.declared.infos.ReservationInfo.{ReservationInfo}
use Rattle.drmaa_model.specs.declared.courses.Course.{Course}
use Rattle.drmaa_model.specs.declared.reservations.Accepted.{Accepted}
use Rattle.drmaa_model.specs.declared.rows.Row.{Row}
use Rattle.drmaa_model.specs.NextLaunch.{held}
use Rattle.drmaa_model.specs.World.{World}

-- the name that stands for a queue where there are none
abbrev pub default_queue : List ℕ
default_queue = codes "default"

-- the name of the queue of a job
abbrev pub queue_name : List QueueSpec → Option ℕ → List ℕ
queue_name queues place = option_map_or (λ (queue : QueueSpec). queue.name) (option_and_then (λ (n : ℕ). queue_at n queues) place) default_queue

-- the names of all queues, in order
abbrev pub queue_names : List QueueSpec → List (List ℕ)
queue_names [] = default_queue ∷ []
queue_names (first ∷ others) = map (λ (queue : QueueSpec). queue.name) (first ∷ others)

-- the name of a home, where its named session is still there
abbrev pub home_name : Sessions → Option ℕ → Option (List ℕ)
home_name s home = option_and_then (λ (h : ℕ). name_of h s.named) home

-- The seconds of a job that was launched at a moment: none as yet where it waits again; else up to its end, or up to now.
abbrev pub seconds_since : ℕ → Course → ℕ → ℕ
seconds_since now course launched =
    if is_waiting course.state then 0 else option_map_or (λ (finished : ℕ). finished) course.finished now - launched

abbrev pub wallclock : ℕ → Course → Option ℕ
wallclock now course = option_map (seconds_since now course) course.dispatched

abbrev pub info : World → Row → JobInfo
info w row = record {
  job = row.job;
  session = home_name w.sessions row.home;
  name = row.template.job_name;
  array = row.wants.array;
  index = row.wants.index;
  state = row.course.state;
  slots = row.course.last_slots;
  queue = queue_name w.plan.queues row.wants.queue;
  wallclock = wallclock w.plan.moment row.course;
  submitted = row.submitted;
  dispatched = row.course.dispatched;
  finished = row.course.finished;
  exit = row.course.exit;
  note = row.course.note;
}

-- the infos of all kept jobs, by number
abbrev pub infos : World → List JobInfo
infos w = map (info w) w.plan.rows

-- those of these rows that a filter lets through
abbrev pub filtered : World → JobFilter → List Row → List Row
filtered w f rows = filter (λ (row : Row). matches f (info w row)) rows

abbrev pub numbers : List Row → List ℕ
numbers rows = map (λ (row : Row). row.job.0) rows

abbrev pub reservation_numbers : List Accepted → List ℕ
reservation_numbers rs = map (λ (a : Accepted). a.reservation.0) rs

abbrev pub reservation_info : World → Accepted → ReservationInfo
reservation_info w a = record {
  reservation = a.reservation;
  session = home_name w.sessions a.home;
  name = a.name;
  slots = a.slots;
  from = a.from;
  until = a.until;
}

abbrev pub machine_info : World → MachineInfo
machine_info w = record { name = w.config.name; slots = w.config.slots; used = held w.plan.rows }
