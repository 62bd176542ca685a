-- Laws of tables of refusals.
use Rattle.std.specs.Prelude.{◌≡◌, Bool, true, false, cond, List, [], ◌∷◌, ◌++◌, Some, None}
use Rattle.std.proofs.Common.{refl}
use Rattle.drmaa_types.specs.Refusals.{first_refusal}
use Rattle.drmaa_types.specs.declared.refusals.Refusal.{Refusal}

-- where the first table refuses, both do so
pub refused_first : (ts us : List (Bool × Refusal)) (refusal : Refusal) → first_refusal ts ≡ Some refusal → first_refusal (ts ++ us) ≡ Some refusal
refused_first [] us refusal e = absurd (cc)
refused_first (t ∷ ts) us refusal e =
    (elim t.0 as (λ b. cond b (Some t.1) (first_refusal ts) ≡ Some refusal → cond b (Some t.1) (first_refusal (ts ++ us)) ≡ Some refusal) [
      | true ↦ λ h. h
      | false ↦ λ h. refused_first ts us refusal h
    ]) e

-- where the first table does not refuse, the second decides
pub passed_first : (ts us : List (Bool × Refusal)) → first_refusal ts ≡ None → first_refusal (ts ++ us) ≡ first_refusal us
passed_first [] us e = refl
passed_first (t ∷ ts) us e =
    (elim t.0 as (λ b. cond b (Some t.1) (first_refusal ts) ≡ None → cond b (Some t.1) (first_refusal (ts ++ us)) ≡ first_refusal us) [
      | true ↦ λ h. absurd (cc)
      | false ↦ λ h. passed_first ts us h
    ]) e
