-- Laws of the places of all numbers: which have one in a history, and which have none.
use Rattle.std.proofs.Common.{◌≡◌, ℕ, ◌+◌, ◌-◌, ◌<◌, ◌≤◌, zero, suc, Bool, true, false, cond, List, [], ◌∷◌, ◌++◌, length, Option, Some, None, refl, sym, ◌∙◌, ap, subst, arith, slice_set}
use Rattle.std.specs.Prelude.{replicate, IsSome}
use Rattle.std.proofs.lemmas.List.{length-replicate}
use Rattle.drmaa_model.specs.declared.configs.Config.{Config}
use Rattle.drmaa_model.specs.declared.entries.Entry.{Entry}
use Rattle.drmaa_model.specs.Heard.{registers, place_from}
use Rattle.drmaa_model.specs.History.{after_entry, IsLegalFrom, IsLegal}
use Rattle.drmaa_model.specs.World.{World, opening_world}
use Rattle.change_callbacks.specs.Ears.{Listening, place_at}
use Rattle.change_callbacks.specs.Places.{ArePlaced, Follows, HavePlaces, place_of, registrations_of}
use Rattle.change_callbacks.specs.RegisterLaws.{registers-is, step-register-call, placed-among}

pub none-there : (n i : ℕ) → place_at (replicate n None) i ≡ None
none-there zero i = refl
none-there (suc n) zero = refl
none-there (suc n) (suc i) = none-there n i

-- before the first entry none has a place
pub placed-first : (config : Config) → ArePlaced config [] (replicate 64 None)
placed-first config = record { as_many = length-replicate {A = Option ℕ} 64 None; each = none-there 64 }

-- an entry that does not register a number leaves its place as it is
pub place-other : (w : World) (n : ℕ) (xs : List Entry) (e : Entry) → registers n e.reply ≡ false → place_from w n (xs ++ e ∷ []) ≡ place_from w n xs
place-other w n [] e not = ap (λ (b : Bool). cond b (Some (length (after_entry w e).plan.changes)) None) not
place-other w n (x ∷ xs) e not =
    elim (registers n x.reply) as (λ b. cond b (Some (length (after_entry w x).plan.changes)) (place_from (after_entry w x) n (xs ++ e ∷ []))
    ≡ cond b (Some (length (after_entry w x).plan.changes)) (place_from (after_entry w x) n xs)) [
      | true ↦ refl
      | false ↦ place-other (after_entry w x) n xs e not
    ]

-- a number above those that are registered has no place
pub unplaced : (config : Config) (n : ℕ) (history : List Entry) → IsLegal config history → registrations_of config history < n → place_of config history n ≡ None
unplaced config n history legal above =
    (elim (place_of config history n) as (λ o. place_of config history n ≡ o → o ≡ None) [
      | None ↦ λ is. refl
      | Some place ↦ λ is. absurd (let within : n ≤ registrations_of config history = (placed-among (opening_world config) n place history legal is).within in omega (arith, within, above))
    ]) refl

-- ---- by what each entry registers

-- a place more takes none away
set-some : (ps : List (Option ℕ)) (k i q : ℕ) → IsSome (place_at ps i) → IsSome (place_at (slice_set ps k (Some q)) i)
set-some [] k i q is = is
set-some (p ∷ ps) zero zero q is = refl
set-some (p ∷ ps) zero (suc i) q is = is
set-some (p ∷ ps) (suc k) zero q is = is
set-some (p ∷ ps) (suc k) (suc i) q is = set-some ps k i q is

pub have-set : (es : List Entry) (ps : List (Option ℕ)) (k q : ℕ) → HavePlaces es ps → HavePlaces es (slice_set ps k (Some q))
have-set [] ps k q all = tt
have-set (e ∷ es) ps k q all = (λ own n is. set-some ps k (n - 1) q (all.0 own n is), have-set es ps k q all.1)

-- where each number that an entry of a history registers has a place, all places are those of the history
has-own : (w : World) (n p : ℕ) (ps : List (Option ℕ)) (es : List Entry) → HavePlaces es ps → IsLegalFrom w es → place_from w n es ≡ Some p → IsSome (place_at ps (n - 1))
has-own w n p ps [] all legal is = absurd (cc)
has-own w n p ps (e ∷ es) all legal is =
    (elim (registers n e.reply) as (λ b. registers n e.reply ≡ b → cond b (Some (length (after_entry w e).plan.changes)) (place_from (after_entry w e) n es) ≡ Some p → IsSome (place_at ps (n - 1))) [
      | true ↦ λ own at. (let told = registers-is n e.reply own in all.0 (step-register-call w e (after_entry w e) n legal.0 told) n told)
      | false ↦ λ own at. has-own (after_entry w e) n p ps es all.1 legal.1 at
    ]) refl is

pub all-placed : {B : Type 0} (config : Config) (history : List Entry) (ears : Listening B) → Follows config history ears → HavePlaces history ears.places → (i : ℕ) → place_at ears.places i ≡ place_of config history (i + 1)
all-placed config history ears f all i =
    (elim (place_at ears.places i) as (λ o. place_at ears.places i ≡ o → o ≡ place_of config history (i + 1)) [
      | Some p ↦ λ at. sym (f.places i p at)
      | None ↦ λ at.
          ((elim (place_of config history (i + 1)) as (λ o. place_of config history (i + 1) ≡ o → None ≡ o) [
            | None ↦ λ is. refl
            | Some p ↦ λ is.
                (let there : IsSome (place_at ears.places (i + 1 - 1)) = has-own (opening_world config) (i + 1) p ears.places history all f.legal is in
                let index : i + 1 - 1 ≡ i = omega arith in
                absurd (let none = subst (λ (o : Option ℕ). IsSome o) (ap (place_at ears.places) index ∙ at) there in cc))
          ]) refl)
    ]) refl
