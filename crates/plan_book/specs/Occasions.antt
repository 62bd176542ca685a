-- What is made of a plan on an occasion: our profile.
use Rattle.std.specs.Prelude.{◌≡◌, ◌<◌, ◌≤◌, true, Result, Ok, Err}
use Rattle.drmaa_types.specs.declared.refusals.Refusal.{Refusal}
use Rattle.drmaa_model.specs.declared.faults.NoEntry.{NoEntry}
use Rattle.drmaa_model.specs.declared.faults.NoEntry.TheVariants.{Journal, OutOfMemory}
use Rattle.drmaa_model.specs.Operation.{Operation, outcome, size_at}
use Rattle.drmaa_model.specs.Plan.{Plan}
use Rattle.drmaa_model.specs.Time.{advance_plan}
use Rattle.plan_book.specs.declared.occasions.Occasion.{Occasion}

-- the plan that has come to the occasion's moment
abbrev pub plan_at : Occasion → Plan → Plan
plan_at o p = advance_plan o.entry o.at p

-- the entry is made, with this answer: the journal has room for what it leads to, and there is memory for it
pub record IsServed {A : Type 0} (o : Occasion) (answer : A) (next : Plan) (result : Result A NoEntry) (new : Plan) : Type 0 where
  pub answered : result ≡ Ok answer
  pub plan : new ≡ next
  pub within : size_at o.entry next ≤ o.limit
  pub memory : o.has_memory ≡ true

-- the journal would be too large
pub record IsFull {A : Type 0} (o : Occasion) (next old : Plan) (result : Result A NoEntry) (new : Plan) : Type 0 where
  pub answered : result ≡ Err (Journal (size_at o.entry next))
  pub above : o.limit < size_at o.entry next
  pub plan : new ≡ old

-- the journal has room, and memory ran out
pub record IsShort {A : Type 0} (o : Occasion) (next old : Plan) (result : Result A NoEntry) (new : Plan) : Type 0 where
  pub answered : result ≡ Err OutOfMemory
  pub within : size_at o.entry next ≤ o.limit
  pub plan : new ≡ old

-- An entry is made on an occasion, with this answer and this plan next; or none is, and nothing changes: since the journal would
-- be too large, or else since memory ran out.
pub data Meets {A : Type 0} (o : Occasion) (answer : A) (next old : Plan) (result : Result A NoEntry) (new : Plan) : Type 0 where
  served : IsServed o answer next result new → Meets o answer next old result new
  full : IsFull o next old result new → Meets o answer next old result new
  short : IsShort o next old result new → Meets o answer next old result new

-- a step that has nothing to tell is made then
abbrev pub StepsAt : Occasion → (Plan → Plan) → Plan → Result (Unit {0}) NoEntry → Plan → Type 0
StepsAt o step old result new = Meets o tt (step (plan_at o old)) old result new

-- an operation is refused then: nothing happens but what time does
abbrev pub RefusesAt : {A : Type 0} → Occasion → Refusal → Plan → Result (Result A Refusal) NoEntry → Plan → Type 0
RefusesAt o why old result new = Meets o (Err why) (plan_at o old) old result new

-- an operation is answered then
abbrev pub MeetsAt : {A : Type 0} → Occasion → Operation A → Plan → Result (Result A Refusal) NoEntry → Plan → Type 0
MeetsAt o op old result new = Meets o (outcome op o.entry (plan_at o old)).answer (outcome op o.entry (plan_at o old)).plan old result new

-- Nothing changes, since memory ran out before it was known whether the journal has room.
pub record IsUnsized {A : Type 0} (old : Plan) (result : Result A NoEntry) (new : Plan) : Type 0 where
  pub answered : result ≡ Err OutOfMemory
  pub plan : new ≡ old
