-- When a call on jobs is refused, by their rows as they are once time has come to its moment.
use Rattle.std.specs.Prelude.{ℕ, Bool, false, not, List, [], ◌∷◌, max, filter, Option, is_some}
use Rattle.drmaa_types.specs.Refusals.{first_refusal}
use Rattle.drmaa_types.specs.States.{after_control, has_terminated}
use Rattle.drmaa_types.specs.declared.refusals.Refusal.{Refusal}
use Rattle.drmaa_types.specs.declared.states.Control.{Control}
use Rattle.drmaa_types.specs.declared.states.JobState.{JobState}
use Rattle.drmaa_model.specs.declared.calls.Target.{Target}
use Rattle.drmaa_model.specs.declared.calls.Target.TheVariants as target
use Rattle.drmaa_model.specs.declared.rows.Row.{Row}
use Rattle.drmaa_model.specs.Plan.{Plan}
use Rattle.drmaa_model.specs.Targets.{kept_test, permit_test}
use Rattle.drmaa_model.specs.Time.{lasts}
use Rattle.drmaa_model.specs.TimeLaws.{timed}
use Rattle.plan_book.specs.Sweeps.{may_add_order}
use Rattle.scheduler_core.specs.declared.targets.Act.{Act}
use Rattle.scheduler_core.specs.declared.targets.Act.TheVariants as act

-- a job as it will be once time has come to a moment
abbrev pub row_then : ℕ → Plan → Row → Row
row_then at p row = timed (max p.moment at) (filter (lasts (max p.moment at)) p.reservations) row

-- this state permits the call
abbrev pub may_act : Act → JobState → Bool
may_act (act.Control what) state = is_some (after_control state what)
may_act act.Reap state = has_terminated state

-- the first test that holds: no kept job is meant, or the state of none permits the call
abbrev pub refusal_of : Act → Target → List Row → Option Refusal
refusal_of a t rows = first_refusal (kept_test t rows ∷ permit_test (λ (row : Row). may_act a row.course.state) t rows ∷ [])

-- the call is for one job, and asks for no signal: a hold or a release of it
abbrev pub is_one_quiet : Target → Control → Bool
is_one_quiet (target.Job job) what = not (may_add_order what)
is_one_quiet (target.Array array) what = false
