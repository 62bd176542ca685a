-- The tests of a submission that come before the text of its members, in their order.
use Rattle.std.specs.Prelude.{ℕ, ◌+◌, ◌≤◌, Bool, false, nat_lt, List, [], ◌∷◌, ◌++◌, length, not, Option, Some, None, is_some}
use Rattle.std.specs.Option.{option_map_or}
use Rattle.job_template.specs.declared.templates.JobTemplate.{JobTemplate}
use Rattle.job_template.specs.JobTests.{job_tests}
use Rattle.job_template.specs.Wants.{min_slots}
use Rattle.drmaa_types.specs.declared.refusals.Refusal.{Refusal}
use Rattle.drmaa_types.specs.declared.refusals.Refusal.TheVariants.{InvalidArgument, OutOfResource}
use Rattle.drmaa_types.specs.declared.refusals.Which.TheVariants as which
use Rattle.drmaa_types.specs.declared.refusals.Limit.TheVariants as resource
use Rattle.drmaa_model.specs.declared.calls.Indices.{Indices}
use Rattle.drmaa_model.specs.Plan.{Plan}
use Rattle.drmaa_model.specs.Submitting.{bulk_tests, index_count, most_jobs, names_none, named_slots}

-- the indices go from one to the next, up to the end
pub record AreSteps (i : Indices) : Type 0 where
  pub begin : 1 ≤ i.begin
  pub range : i.begin ≤ i.end
  pub step : 1 ≤ i.step

-- how many jobs are asked for
abbrev pub job_count : Option Indices → ℕ
job_count None = 1
job_count (Some i) = index_count i

-- the reservation that a template names: its slots, and how many the job needs
abbrev pub slots_tests : Option ℕ → ℕ → List (Bool × Refusal)
slots_tests slots min =
    (not (is_some slots), InvalidArgument which.Reservation) ∷
    (option_map_or (λ (n : ℕ). nat_lt n min) slots false, InvalidArgument which.MinSlots) ∷ []

-- the reservation that a template names, if it names one
abbrev pub named_tests : JobTemplate → Plan → List (Bool × Refusal)
named_tests t p =
    (names_none t p, InvalidArgument which.Reservation) ∷
    (option_map_or (λ (slots : ℕ). nat_lt slots (min_slots t)) (named_slots t p) false, InvalidArgument which.MinSlots) ∷ []

-- how many jobs would be kept
abbrev pub jobs_tests : Option Indices → Plan → List (Bool × Refusal)
jobs_tests indices p = (nat_lt most_jobs (length p.rows + job_count indices), OutOfResource resource.Jobs) ∷ []

-- all that is asked before the rows are made
abbrev pub early_tests : JobTemplate → Option Indices → Plan → List (Bool × Refusal)
early_tests t indices p = bulk_tests indices ++ job_tests p.total p.queues p.moment t ++ named_tests t p ++ jobs_tests indices p
