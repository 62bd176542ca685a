-- What a look tells of a job or a session, and what it tells where memory is wanting.
use Rattle.std.proofs.Common.{◌≡◌, ◌⊎◌, inl, inr, Result, Ok, Err, IfOk, subst}
use Rattle.std.specs.Prelude.{◌≢◌, OnErr}
use Rattle.drmaa_model.specs.declared.configs.Config.{Config}
use Rattle.drmaa_model.specs.declared.looks.Answer.{Answer}
use Rattle.drmaa_model.specs.declared.looks.Answer.TheVariants as told
use Rattle.drmaa_model.specs.declared.looks.Question.{Question}
use Rattle.call_history.specs.Calls.{IsLookedAt}
use Rattle.call_history.specs.Clients.{Seat}
use Rattle.call_history.specs.Clocks.{Dial}

module _ {E : Type 0} (config : Config) (before : Dial) (old : Seat) (after : Dial) (new : Seat) (answer : Answer) where
  -- what the answer tells
  pub looked-told : {A : Type 0} (asked : Question) (tells : A → Answer) (result : Result A E) → IfOk result (λ a. answer ≡ tells a)
      → IsLookedAt config before old asked answer after new → IfOk result (λ a. IsLookedAt config before old asked (tells a) after new)
  looked-told asked tells (Ok a) is looked = subst (λ (x : Answer). IsLookedAt config before old asked x after new) is looked
  looked-told asked tells (Err why) is looked = tt

  -- no memory for what it would tell
  pub looked-in-vain : {A : Type 0} (asked : Question) (tells : A → Answer) (a : A) (result : Result A E) → OnErr result ((a : A) → answer ≢ tells a)
      → (answer ≡ tells a) ⊎ (answer ≡ told.OutOfMemory) → IsLookedAt config before old asked answer after new → OnErr result (IsLookedAt config before old asked told.OutOfMemory after new)
  looked-in-vain asked tells a (Ok some) none is looked = tt
  looked-in-vain asked tells a (Err why) none (inl is) looked = absurd (none a is)
  looked-in-vain asked tells a (Err why) none (inr is) looked = subst (λ (x : Answer). IsLookedAt config before old asked x after new) is looked
