-- Control and reaping, of one job or of the members of an array: GFD.231, Job and JobArray; who is acted on is our profile.
use Rattle.std.specs.Prelude.{ℕ, Bool, false, not, ◌&&◌, List, [], ◌∷◌, ◌++◌, filter, Option, Some, None, is_some, if◌then◌else◌}
use Rattle.std.specs.List.{flat_map}
use Rattle.std.specs.Option.{option_map_or}
use Rattle.drmaa_types.specs.Refusals.{first_refusal}
use Rattle.drmaa_types.specs.States.{after_control, has_terminated}
use Rattle.drmaa_types.specs.declared.identifiers.JobId.{JobId}
use Rattle.drmaa_types.specs.declared.refusals.Refusal.{Refusal}
use Rattle.drmaa_types.specs.declared.states.Control.{Control}
use Rattle.drmaa_types.specs.declared.states.JobState.{JobState}
use Rattle.drmaa_types.specs.declared.states.SignalKind.{SignalKind}
use Rattle.drmaa_model.specs.declared.calls.Target.{Target}
use Rattle.drmaa_model.specs.declared.courses.Order.{Order}
use Rattle.drmaa_model.specs.declared.rows.Row.{Row}
use Rattle.drmaa_model.specs.Courses.{controlled, asked_for}
use Rattle.drmaa_model.specs.Operation.{Operation}
use Rattle.drmaa_model.specs.Plan.{Plan}
use Rattle.drmaa_model.specs.Rows.{change_rows}
use Rattle.drmaa_model.specs.Targets.{is_meant, kept_test, permit_test}

-- ---- control

-- the job's state permits the call
abbrev pub permits : Control → Row → Bool
permits what row = is_some (after_control row.course.state what)

-- A call acts on each job that is meant and whose state permits it.
abbrev pub is_controlled : Target → Control → Row → Bool
is_controlled t what row = is_meant t row && permits what row

abbrev pub controlled_row : ℕ → Control → Row → Row
controlled_row moment what row =
    option_map_or (λ (state : JobState). record row { course = controlled moment what state row.course }) (after_control row.course.state what) row

abbrev pub control_step : ℕ → Target → Control → Row → Row
control_step moment t what row = if is_controlled t what row then controlled_row moment what row else row

-- the signal that the call asks for, as an order
abbrev pub orders_for : JobId → Option SignalKind → List Order
orders_for job None = []
orders_for job (Some kind) = record { job = job; kind = kind; taken = false } ∷ []

abbrev pub asked_orders : Target → Control → Row → List Order
asked_orders t what row = if is_controlled t what row then orders_for row.job (asked_for what row.course) else []

abbrev pub control_tests : Target → Control → Plan → List (Bool × Refusal)
control_tests t what p = permit_test (permits what) t p.rows ∷ []

abbrev pub control : Target → Control → Operation (Unit {0})
control t what = record {
  refusal = λ p. first_refusal (kept_test t p.rows ∷ control_tests t what p);
  told = λ p. tt;
  effect = λ entry p. record (change_rows entry (control_step p.moment t what) p) {
    orders = p.orders ++ flat_map (asked_orders t what) p.rows;
  };
}

-- ---- reaping

-- the job has ended, so that it may be forgotten
abbrev pub is_done : Row → Bool
is_done row = has_terminated row.course.state

abbrev pub reap_tests : Target → Plan → List (Bool × Refusal)
reap_tests t p = permit_test is_done t p.rows ∷ []

-- Each job that is meant and has ended is forgotten. That is no change of its state.
abbrev pub reap : Target → Operation (Unit {0})
reap t = record {
  refusal = λ p. first_refusal (kept_test t p.rows ∷ reap_tests t p);
  told = λ p. tt;
  effect = λ entry p. record p { rows = filter (λ (row : Row). not (is_meant t row && is_done row)) p.rows };
}
