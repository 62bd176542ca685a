-- The rows, and how they change: our profile.
use Rattle.std.specs.Prelude.{ℕ, Bool, ◌==◌, List, [], ◌∷◌, ◌++◌, map, find, Option, if◌then◌else◌}
use Rattle.std.specs.List.{flat_map}
use Rattle.std.specs.Option.{option_map_or}
use Rattle.drmaa_types.specs.States.{is_state}
use Rattle.drmaa_types.specs.declared.changes.Change.{Change}
use Rattle.drmaa_types.specs.declared.identifiers.JobId.{JobId}
use Rattle.drmaa_types.specs.declared.states.JobState.{JobState}
use Rattle.drmaa_types.specs.declared.states.JobState.TheVariants.{Undetermined}
use Rattle.drmaa_model.specs.declared.courses.Course.{Course}
use Rattle.drmaa_model.specs.declared.rows.Row.{Row}
use Rattle.drmaa_model.specs.Plan.{Plan}

-- whether a row is that of this job
abbrev pub is_of : JobId → Row → Bool
is_of job row = row.job.0 == job.0

-- the row of this job, if it is kept
abbrev pub row_of : JobId → List Row → Option Row
row_of job rows = find (is_of job) rows

-- the state of a kept job
abbrev pub state_of : JobId → List Row → JobState
state_of job rows = option_map_or (λ (row : Row). row.course.state) (row_of job rows) Undetermined

-- the one change of a row that goes over to another state, and none where its state stays
abbrev pub change_of : ℕ → Row → Row → List Change
change_of entry row next =
    if is_state row.course.state next.course.state then []
    else record { entry = entry; job = row.job; home = row.home; from = row.course.state; to = next.course.state } ∷ []

-- Each row goes over to the next that this step gives it. The changes bear the number of the entry that is being made.
abbrev pub change_rows : ℕ → (Row → Row) → Plan → Plan
change_rows entry step p = record p {
  rows = map step p.rows;
  changes = p.changes ++ flat_map (λ row. change_of entry row (step row)) p.rows;
}

-- this job has this course, and each other job its own
abbrev pub with_course : JobId → Course → Row → Row
with_course job course row = if is_of job row then record row { course = course } else row

-- one job goes on by this course
abbrev pub go_on : ℕ → JobId → Course → Plan → Plan
go_on entry job course p = change_rows entry (with_course job course) p
