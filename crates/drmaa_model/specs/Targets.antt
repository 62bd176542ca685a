-- The jobs that a call is for: one, or the members of an array: GFD.231, Job and JobArray.
use Rattle.std.specs.Prelude.{Bool, not, ◌&&◌, List, find}
use Rattle.std.specs.List.{list_any}
use Rattle.std.specs.Option.{option_map_or}
use Rattle.drmaa_types.specs.declared.refusals.Refusal.{Refusal}
use Rattle.drmaa_types.specs.declared.refusals.Refusal.TheVariants.{InvalidArgument, InvalidState}
use Rattle.drmaa_types.specs.declared.refusals.Which.{Which}
use Rattle.drmaa_types.specs.declared.refusals.Which.TheVariants as which
use Rattle.drmaa_types.specs.declared.states.JobState.{JobState}
use Rattle.drmaa_types.specs.declared.states.JobState.TheVariants.{Undetermined}
use Rattle.drmaa_model.specs.declared.calls.Target.{Target}
use Rattle.drmaa_model.specs.declared.calls.Target.TheVariants as target
use Rattle.drmaa_model.specs.declared.rows.Row.{Row}
use Rattle.drmaa_model.specs.Load.{is_member}
use Rattle.drmaa_model.specs.Rows.{is_of}

-- the row is that of the job, or of a member of the array
abbrev pub is_meant : Target → Row → Bool
is_meant (target.Job job) row = is_of job row
is_meant (target.Array array) row = is_member array row

-- which argument names it
abbrev pub argument_of : Target → Which
argument_of (target.Job job) = which.Job
argument_of (target.Array array) = which.Array

-- no kept job is meant
abbrev pub kept_test : Target → List Row → Bool × Refusal
kept_test t rows = (not (list_any (is_meant t) rows), InvalidArgument (argument_of t))

-- the state of the job, or of the array's kept member of least number
abbrev pub first_state : Target → List Row → JobState
first_state t rows = option_map_or (λ (row : Row). row.course.state) (find (is_meant t) rows) Undetermined

-- no job that is meant permits the call
abbrev pub permit_test : (Row → Bool) → Target → List Row → Bool × Refusal
permit_test permits t rows = (not (list_any (λ (row : Row). is_meant t row && permits row) rows), InvalidState (first_state t rows))
