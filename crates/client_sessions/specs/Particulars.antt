-- What a question about a job or a session comes to: our profile.
use Rattle.std.specs.Prelude.{◌≡◌, ℕ, List, Some, None}
use Rattle.drmaa_types.specs.Readings.{Readings}
use Rattle.drmaa_types.specs.declared.identifiers.SessionId.{SessionId}
use Rattle.drmaa_types.specs.declared.refusals.Refusal.{Refusal}
use Rattle.drmaa_types.specs.declared.refusals.Refusal.TheVariants as why
use Rattle.drmaa_model.specs.declared.looks.Answer.{Answer}
use Rattle.drmaa_model.specs.declared.looks.Answer.TheVariants as told
use Rattle.drmaa_model.specs.declared.looks.Question.{Question}
use Rattle.drmaa_model.specs.declared.looks.Question.TheVariants as question
use Rattle.call_history.specs.declared.desks.Desk.{Desk}
use Rattle.client_sessions.specs.Desks.{LooksUp}

-- The one look answered that there is none, which is refused so; or that memory is wanted for what there is.
pub data IsUntold {C : Type 0} (given : C → Readings) (least : C → ℕ) (old : Desk C) (asked : Question) (none : Answer) (absent : Refusal) (new : Desk C) (reason : Refusal) : Type 0 where
  is_absent : reason ≡ absent → LooksUp given least old asked none new → IsUntold given least old asked none absent new reason
  of_memory : reason ≡ why.OutOfMemory → LooksUp given least old asked told.OutOfMemory new → IsUntold given least old asked none absent new reason

-- The name of a session is told; or there is none, or no memory for it.
abbrev pub TellsName : {C : Type 0} → (C → Readings) → (C → ℕ) → Desk C → SessionId → Desk C → List ℕ → Type 0
TellsName given least old session new name = LooksUp given least old (question.SessionName session) (told.SessionName (Some name)) new

abbrev pub IsNameless : {C : Type 0} → (C → Readings) → (C → ℕ) → Desk C → SessionId → Desk C → Refusal → Type 0
IsNameless given least old session new reason = IsUntold given least old (question.SessionName session) (told.SessionName None) why.InvalidSession new reason
