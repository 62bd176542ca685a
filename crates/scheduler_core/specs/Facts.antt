-- What is told of a kept job, and which job comes next: our profile.
use Rattle.std.specs.Prelude.{ℕ, Bool, false, ◌&&◌, max, nat_le, filter, find, Option}
use Rattle.std.specs.Option.{option_map, option_map_or}
use Rattle.drmaa_types.specs.declared.identifiers.ArrayId.{ArrayId}
use Rattle.drmaa_types.specs.declared.identifiers.JobId.{JobId}
use Rattle.drmaa_model.specs.declared.rows.Row.{Row}
use Rattle.drmaa_model.specs.Homes.{is_same_home}
use Rattle.drmaa_model.specs.Load.{is_member}
use Rattle.drmaa_model.specs.Plan.{Plan}
use Rattle.drmaa_model.specs.Rows.{row_of}
use Rattle.drmaa_model.specs.Time.{lasts, lapses}
pub use Rattle.plan_book.specs.Owed.{reports_due, reports_to_come}
use Rattle.scheduler_core.specs.declared.facts.RowFacts.{RowFacts}

abbrev pub row_facts : Row → RowFacts
row_facts row = record {
  job = row.job;
  home = row.home;
  array = row.wants.array;
  index = row.wants.index;
  bound = row.wants.bound;
  rerunnable = row.wants.rerunnable;
  start = row.wants.start;
  deadline = row.wants.deadline;
  reservation = row.wants.reservation;
  queue = row.wants.queue;
  state = row.course.state;
  phase = row.course.phase;
  attempt = row.course.attempt;
  held = row.course.held;
  last_slots = row.course.last_slots;
  kill = row.course.kill;
  planned = row.course.planned;
  submitted = row.submitted;
  dispatched = row.course.dispatched;
  finished = row.course.finished;
  exit = row.course.exit;
  note = row.course.note;
}

-- the first kept job whose number is at this one or above it; the jobs stand in order of number
abbrev pub job_from : ℕ → Plan → Option JobId
job_from number p = option_map (λ (row : Row). row.job) (find (λ (row : Row). nat_le number row.job.0) p.rows)

-- the job is a member of the array, and belongs to this home
abbrev pub is_own_member : Option ℕ → ArrayId → Row → Bool
is_own_member home array row = is_same_home home row.home && is_member array row

-- time would end the job, which waits, when it comes to this moment
abbrev pub lapses_at : ℕ → JobId → Plan → Bool
lapses_at at job p = option_map_or (lapses (max p.moment at) (filter (lasts (max p.moment at)) p.reservations)) (row_of job p.rows) false
