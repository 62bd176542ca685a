-- The jobs of one submission, by what they share.
use Rattle.std.specs.Prelude.{ℕ, List, [], map, Option}
use Rattle.job_template.specs.declared.templates.JobTemplate.{JobTemplate}
use Rattle.job_template.specs.Expand.{expanded}
use Rattle.drmaa_types.specs.declared.identifiers.ArrayId.{ArrayId}
use Rattle.drmaa_types.specs.declared.queues.QueueSpec.{QueueSpec}
use Rattle.drmaa_model.specs.declared.calls.Indices.{Indices}
use Rattle.drmaa_model.specs.declared.replies.Submitted.{Submitted}
use Rattle.drmaa_model.specs.declared.rows.Row.{Row}
use Rattle.drmaa_model.specs.Courses.{Membership}
use Rattle.drmaa_model.specs.Plan.{Plan, opening_plan}
use Rattle.drmaa_model.specs.Submitting.{Member, array_number, indices_from, members, membership, new_row, new_rows}
use Rattle.scheduler_core.specs.declared.batches.Batch.{Batch}
use Rattle.scheduler_core.specs.Early.{job_count}

-- the jobs that are submitted to this plan share this
abbrev pub batch_of : ℕ → Plan → Batch
batch_of home p = record { home = home; moment = p.moment; first = p.next_job; array = p.next_array }

-- a plan that has these queues and what they share, and nothing else
abbrev pub plan_in : List QueueSpec → Batch → Plan
plan_in queues b = record (opening_plan 0 queues) { moment = b.moment; next_job = b.first; next_array = b.array }

abbrev pub place : Option ArrayId → Option ℕ → Option ℕ → Membership
place array index bound = record { array = array; index = index; bound = bound }

-- a job with this template, in this place
abbrev pub placed : JobTemplate → Option ArrayId → Option ℕ → Option ℕ → Member
placed t array index bound = record { template = t; membership = place array index bound }

-- the member of an array that has this index
abbrev pub batch_member : Batch → JobTemplate → Indices → ℕ → Member
batch_member b t i index = record { template = expanded index t; membership = membership i (plan_in [] b) index }

-- so many members from this index on
abbrev pub members_from : Batch → JobTemplate → Indices → ℕ → ℕ → List Member
members_from b t i index count = map (batch_member b t i) (indices_from index i.step count)

-- all jobs that are asked for
abbrev pub batch_members : Batch → JobTemplate → Option Indices → List Member
batch_members b t indices = members t indices (plan_in [] b)

-- on a machine with these queues
abbrev pub batch_row : List QueueSpec → Batch → ℕ → Member → Row
batch_row queues b number m = new_row b.home (plan_in queues b) number m

-- consecutive numbers from this one on
abbrev pub batch_rows : List QueueSpec → Batch → ℕ → List Member → List Row
batch_rows queues b number ms = new_rows b.home (plan_in queues b) number ms

-- what is answered
abbrev pub told_of : Batch → Option Indices → Submitted
told_of b indices = record { array = array_number indices (plan_in [] b); first = record { 0 = b.first }; count = job_count indices }
