-- Submission of a job and of an array of jobs: GFD.231, JobSession; numbers and limits are our profile.
use Rattle.std.specs.Prelude.{ℕ, zero, suc, ◌+◌, ◌-◌, ◌/◌, Bool, false, not, ◌||◌, ◌==◌, nat_lt, List, [], ◌∷◌, ◌++◌, length, map, sum_by, Option, Some, None}
use Rattle.std.specs.Option.{option_map_or, option_and_then}
use Rattle.job_template.specs.declared.templates.JobTemplate.{JobTemplate}
use Rattle.job_template.specs.Expand.{expanded}
use Rattle.job_template.specs.JobTests.{job_tests}
use Rattle.job_template.specs.Texts.{text_length}
use Rattle.job_template.specs.Wants.{min_slots}
use Rattle.drmaa_types.specs.Refusals.{first_refusal}
use Rattle.drmaa_types.specs.declared.identifiers.ArrayId.{ArrayId}
use Rattle.drmaa_types.specs.declared.identifiers.ReservationId.{ReservationId}
use Rattle.drmaa_types.specs.declared.refusals.Refusal.{Refusal}
use Rattle.drmaa_types.specs.declared.refusals.Refusal.TheVariants.{InvalidArgument, OutOfResource}
use Rattle.drmaa_types.specs.declared.refusals.Which.TheVariants as which
use Rattle.drmaa_types.specs.declared.refusals.Limit.TheVariants as resource
use Rattle.drmaa_model.specs.declared.calls.Indices.{Indices}
use Rattle.drmaa_model.specs.declared.replies.Submitted.{Submitted}
use Rattle.drmaa_model.specs.declared.reservations.Accepted.{Accepted}
use Rattle.drmaa_model.specs.declared.rows.Row.{Row}
use Rattle.drmaa_model.specs.Courses.{Membership, wants_of, submitted_course}
use Rattle.drmaa_model.specs.Load.{reservation_of}
use Rattle.drmaa_model.specs.Operation.{Operation}
use Rattle.drmaa_model.specs.Plan.{Plan}
use Rattle.drmaa_model.specs.Time.{is_accepted}

-- ---- the jobs that a call asks for

-- `begin`, `begin` plus `step` and so on: so many
abbrev pub indices_from : ℕ → ℕ → ℕ → List ℕ
indices_from begin step zero = []
indices_from begin step (suc count) = begin ∷ indices_from (begin + step) step count

-- how many indices there are up to `end`, which need not be one of them
abbrev pub index_count : Indices → ℕ
index_count i = (i.end - i.begin) / i.step + 1

abbrev pub indices_of : Indices → List ℕ
indices_of i = indices_from i.begin i.step (index_count i)

-- the array that comes next, for a call that asks for one
abbrev pub membership : Indices → Plan → ℕ → Membership
membership i p index = record { array = Some (record { 0 = p.next_array }); index = Some index; bound = i.bound }

abbrev pub alone : Membership
alone = record { array = None; index = None; bound = None }

-- A job that is to be submitted: its template, in which the placeholders are replaced, and its place in an array.
pub record Member : Type 0 where
  pub template : JobTemplate
  pub membership : Membership

abbrev pub members : JobTemplate → Option Indices → Plan → List Member
members t None p = record { template = t; membership = alone } ∷ []
members t (Some i) p = map (λ index. record { template = expanded index t; membership = membership i p index }) (indices_of i)

-- ---- when a submission is refused

abbrev pub most_jobs : ℕ
most_jobs = 100_000

abbrev pub most_members : ℕ
most_members = 10_000

abbrev pub most_kept_text : ℕ
most_kept_text = 67_108_864

-- the text of the templates of all kept jobs
abbrev pub kept_text : List Row → ℕ
kept_text rows = sum_by (λ (row : Row). text_length row.template) rows

-- the text of the templates that would be kept beside them
abbrev pub new_text : List Member → ℕ
new_text ms = sum_by (λ (m : Member). text_length m.template) ms

abbrev pub bulk_tests : Option Indices → List (Bool × Refusal)
bulk_tests None = []
bulk_tests (Some i) =
    ((i.begin == 0) || nat_lt i.end i.begin || (i.step == 0), InvalidArgument which.Indices) ∷
    (option_map_or (λ (bound : ℕ). bound == 0) i.bound false, InvalidArgument which.MaxParallel) ∷
    (nat_lt most_members (index_count i), OutOfResource resource.BulkMembers) ∷ []

-- the reservation that a template names, if it names one, is not accepted
abbrev pub names_none : JobTemplate → Plan → Bool
names_none t p = option_map_or (λ (number : ReservationId). not (is_accepted p.reservations number)) t.reservation_id false

-- the slots of the reservation that a template names
abbrev pub named_slots : JobTemplate → Plan → Option ℕ
named_slots t p = option_and_then (λ (number : ReservationId). option_and_then (λ (a : Accepted). Some a.slots) (reservation_of number p.reservations)) t.reservation_id

abbrev pub room_tests : List Member → Plan → List (Bool × Refusal)
room_tests ms p =
    (nat_lt most_jobs (length p.rows + length ms), OutOfResource resource.Jobs) ∷
    (nat_lt most_kept_text (kept_text p.rows + new_text ms), OutOfResource resource.KeptText) ∷ []

abbrev pub submit_tests : JobTemplate → Option Indices → Plan → List (Bool × Refusal)
submit_tests t indices p =
    bulk_tests indices ++ job_tests p.total p.queues p.moment t ++
    (names_none t p, InvalidArgument which.Reservation) ∷
    (option_map_or (λ (slots : ℕ). nat_lt slots (min_slots t)) (named_slots t p) false, InvalidArgument which.MinSlots) ∷
    room_tests (members t indices p) p

-- ---- what it leads to

abbrev pub new_row : ℕ → Plan → ℕ → Member → Row
new_row home p number m = record {
  job = record { 0 = number };
  home = Some home;
  template = m.template;
  wants = wants_of p.queues m.template m.membership;
  submitted = p.moment;
  course = submitted_course m.template.submit_as_hold;
}

-- consecutive numbers from this one on
abbrev pub new_rows : ℕ → Plan → ℕ → List Member → List Row
new_rows home p number [] = []
new_rows home p number (m ∷ ms) = new_row home p number m ∷ new_rows home p (number + 1) ms

-- the array number that a submission uses, if it asks for an array
abbrev pub array_number : Option Indices → Plan → Option ArrayId
array_number None p = None
array_number (Some i) p = Some (record { 0 = p.next_array })

abbrev pub arrays_used : Option Indices → ℕ
arrays_used None = 0
arrays_used (Some i) = 1

abbrev pub with_rows : List Row → Option Indices → Plan → Plan
with_rows rows indices p = record p {
  rows = p.rows ++ rows;
  next_job = p.next_job + length rows;
  next_array = p.next_array + arrays_used indices;
}

abbrev pub submit : ℕ → JobTemplate → Option Indices → Operation Submitted
submit home t indices = record {
  refusal = λ p. first_refusal (submit_tests t indices p);
  told = λ p. record { array = array_number indices p; first = record { 0 = p.next_job }; count = length (members t indices p) };
  effect = λ entry p. with_rows (new_rows home p p.next_job (members t indices p)) indices p;
}
