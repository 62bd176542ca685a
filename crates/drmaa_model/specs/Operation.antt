-- Operations on a plan, and what one comes to: our profile.
use Rattle.std.specs.Prelude.{ℕ, ◌+◌, Bool, true, false, Option, Result, Ok, Err}
use Rattle.std.specs.Option.{option_map_or}
use Rattle.drmaa_types.specs.declared.refusals.Refusal.{Refusal}
use Rattle.drmaa_types.specs.declared.refusals.Refusal.TheVariants.{DeniedByDrms, TryLater, Timeout, InvalidArgument, InvalidSession, InvalidState, OutOfResource, OutOfMemory, UnsupportedAttribute, UnsupportedOperation}
use Rattle.drmaa_types.specs.declared.refusals.Limit.TheVariants as resource
use Rattle.drmaa_model.specs.Plan.{Plan}
use Rattle.drmaa_model.specs.Size.{weight}

-- What is asked of a plan that has come to its moment: when it is refused, and else what it tells and what it leads to.
-- The number in the effect is that of the entry that is being made.
pub record Operation (A : Type 0) : Type 0 where
  pub refusal : Plan → Option Refusal
  pub told : Plan → A
  pub effect : ℕ → Plan → Plan

-- an answer, and the plan that it leads to
pub record Outcome (A : Type 0) : Type 0 where
  pub answer : Result A Refusal
  pub plan : Plan

-- in a plan that has come to its moment
abbrev pub outcome : {A : Type 0} → Operation A → ℕ → Plan → Outcome A
outcome op entry p = option_map_or (λ (why : Refusal). record { answer = Err why; plan = p }) (op.refusal p) (record { answer = Ok (op.told p); plan = op.effect entry p })

-- A refusal that is an answer, and may stand in an entry: want of memory, a full journal and a turn that another has never do.
abbrev pub is_answer : Refusal → Bool
is_answer (DeniedByDrms moment) = true
is_answer (TryLater served drawn) = false
is_answer Timeout = true
is_answer (InvalidArgument which) = true
is_answer InvalidSession = true
is_answer (InvalidState state) = true
is_answer (OutOfResource resource.Sessions) = true
is_answer (OutOfResource resource.OpenSessions) = true
is_answer (OutOfResource resource.Jobs) = true
is_answer (OutOfResource resource.Reservations) = true
is_answer (OutOfResource resource.Callbacks) = true
is_answer (OutOfResource resource.WaitList) = true
is_answer (OutOfResource resource.BulkMembers) = true
is_answer (OutOfResource resource.TemplateText) = true
is_answer (OutOfResource resource.KeptText) = true
is_answer (OutOfResource (resource.Journal size)) = false
is_answer OutOfMemory = false
is_answer (UnsupportedAttribute attribute) = true
is_answer UnsupportedOperation = true

-- the size of the journal after an entry of this number that leads to this plan
abbrev pub size_at : ℕ → Plan → ℕ
size_at entry p = entry + weight p
