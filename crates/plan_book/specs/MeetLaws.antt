-- What a step or an operation has met, by what was in its way, and the same answer with another value.
use Rattle.std.proofs.Common.{◌≡◌, ◌<◌, ◌≤◌, ℕ, Some, None, inl, inr, refl, sym, ◌∙◌, ap, subst}
use Rattle.std.specs.Prelude.{Result, Ok, Err}
use Rattle.std.proofs.lemmas.Bool.{cases_lt}
use Rattle.drmaa_types.specs.declared.refusals.Refusal.{Refusal}
use Rattle.drmaa_model.specs.declared.faults.NoEntry.{NoEntry}
use Rattle.drmaa_model.specs.declared.faults.NoEntry.TheVariants.{Journal, OutOfMemory}
use Rattle.drmaa_model.specs.Operation.{Operation, Outcome, size_at}
use Rattle.drmaa_model.specs.OperationLaws.{outcome-refused, outcome-served}
use Rattle.drmaa_model.specs.Plan.{Plan}
use Rattle.plan_book.specs.declared.occasions.Occasion.{Occasion}
use Rattle.plan_book.specs.Occasions.{Meets, MeetsAt, RefusesAt, plan_at}
use Rattle.plan_book.specs.Occasions.Meets.{served, full, short}

-- ---- in the way of an entry

-- nothing changes where the journal would be too large, and else where memory is wanting
pub barred-meets : {A : Type 0} (o : Occasion) (answer : A) (next p : Plan) (size : ℕ) (why : NoEntry) → (o.limit < size → why ≡ Journal size) → (size ≤ o.limit → why ≡ OutOfMemory)
    → size ≡ size_at o.entry next → Meets o answer next p (Err why) p
barred-meets {A} o answer next p size why if_full if_short same =
    elim (cases_lt o.limit size) as (λ h. Meets o answer next p (Err why) p) [
      | inl above ↦ full (record {
        answered = ap (λ (e : NoEntry). let r : Result A NoEntry = Err e in r) (if_full above ∙ ap Journal same);
        above = subst (λ (n : ℕ). o.limit < n) same above;
        plan = refl;
      })
      | inr below ↦ short (record {
        answered = ap (λ (e : NoEntry). let r : Result A NoEntry = Err e in r) (if_short below);
        within = subst (λ (n : ℕ). n ≤ o.limit) same below;
        plan = refl;
      })
    ]

-- ---- operations

-- a refusal is met where the table has it
pub refused-meets : {A : Type 0} (op : Operation A) (o : Occasion) (p new : Plan) (why : Refusal) (result : Result (Result A Refusal) NoEntry) → op.refusal (plan_at o p) ≡ Some why
    → RefusesAt o why p result new → MeetsAt o op p result new
refused-meets {A} op o p new why result is met =
    subst (λ (x : Outcome A). Meets o x.answer x.plan p result new) (sym (outcome-refused op o.entry (plan_at o p) why is)) met

-- what it tells and leads to is met where the table has no refusal
pub free-meets : {A : Type 0} (op : Operation A) (o : Occasion) (p new : Plan) (result : Result (Result A Refusal) NoEntry) → op.refusal (plan_at o p) ≡ None
    → (let told : Result A Refusal = Ok (op.told (plan_at o p)) in Meets o told (op.effect o.entry (plan_at o p)) p result new) → MeetsAt o op p result new
free-meets {A} op o p new result free met =
    subst (λ (x : Outcome A). Meets o x.answer x.plan p result new) (sym (outcome-served op o.entry (plan_at o p) free)) met

-- ---- the same answer with another value

pub ok-meets : {A B : Type 0} (o : Occasion) (a x : A) (b : B) (next p new : Plan) (result : Result A NoEntry) → result ≡ Ok x
    → Meets o a next p result new → Meets o b next p (Ok b) new
ok-meets o a x b next p new result is met =
    elim met [
      | served s ↦ served (record { answered = refl; plan = s.plan; within = s.within; memory = s.memory })
      | full f ↦ (let e = f.answered in absurd (cc))
      | short s ↦ (let e = s.answered in absurd (cc))
    ]

pub err-meets : {A B : Type 0} (o : Occasion) (a : A) (b : B) (why : NoEntry) (next p new : Plan) (result : Result A NoEntry) → result ≡ Err why
    → Meets o a next p result new → Meets o b next p (Err why) new
err-meets {A} {B} o a b why next p new result is met =
    elim met [
      | served s ↦ (let e = s.answered in absurd (cc))
      | full f ↦ (let e = f.answered in full (record { answered = (let same : why ≡ Journal (size_at o.entry next) = cc in ap (λ (x : NoEntry). let y : Result B NoEntry = Err x in y) same); above = f.above; plan = f.plan }))
      | short s ↦ (let e = s.answered in short (record { answered = (let same : why ≡ OutOfMemory = cc in ap (λ (x : NoEntry). let y : Result B NoEntry = Err x in y) same); within = s.within; plan = s.plan }))
    ]
