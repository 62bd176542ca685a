-- Where no number has a place, nobody hears of a batch.
use Rattle.std.proofs.Common.{◌≡◌, ℕ, zero, suc, ◌+◌, ◌<◌, ◌||◌, Bool, true, false, List, [], ◌∷◌, length, take, Option, Some, None, refl, sym, subst, arith, slice_index_or, slice_set}
use Rattle.std.specs.Prelude.{sum_by, is_some}
use Rattle.std.specs.List.{list_any}
use Rattle.std.proofs.lemmas.List.Sums.{sum_by-cons}
use Rattle.drmaa_types.specs.declared.changes.Change.{Change}
use Rattle.drmaa_types.specs.declared.changes.Notification.{Notification}
use Rattle.change_callbacks.specs.Ears.{due, notifications, place_at, EachHeard}
use Rattle.change_callbacks.specs.Hearing.{HasHeard}
use Rattle.change_callbacks.specs.HearingLaws.{HasHeard-none}

unplaced : (places : List (Option ℕ)) (i : ℕ) → list_any is_some places ≡ false → place_at places i ≡ None
unplaced [] zero none = refl
unplaced [] (suc i) none = refl
unplaced (None ∷ places) zero none = refl
unplaced (None ∷ places) (suc i) none = unplaced places i none
unplaced (Some place ∷ places) i none = absurd (cc)

-- a number has a place, once one was given
pub any-placed : (places : List (Option ℕ)) (k place : ℕ) → k < length places → true ≡ list_any is_some (slice_set places k (Some place))
any-placed [] k place short = absurd (omega (arith, short))
any-placed (p ∷ places) zero place short = refl
any-placed (p ∷ places) (suc k) place short =
    (elim (is_some p) as (λ (b : Bool). true ≡ (b || list_any is_some (slice_set places k (Some place)))) [
      | true ↦ refl
      | false ↦ any-placed places k place (omega (arith, short))
    ])

-- it makes no calls
pub calls-unplaced : (from : ℕ) (changes : List Change) (n : ℕ) (places : List (Option ℕ)) → list_any is_some places ≡ false
    → 0 ≡ sum_by (λ place. length (due from changes place)) (take n places)
calls-unplaced from changes zero [] none = refl
calls-unplaced from changes (suc n) [] none = refl
calls-unplaced from changes zero (None ∷ places) none = refl
calls-unplaced from changes (suc n) (None ∷ places) none =
    let rest : 0 ≡ sum_by (λ place. length (due from changes place)) (take n places) = calls-unplaced from changes n places none in
    let first : sum_by (λ place. length (due from changes place)) (None ∷ take n places) ≡ 0 + sum_by (λ place. length (due from changes place)) (take n places) =
    sum_by-cons (λ place. length (due from changes place)) None (take n places) in
    omega (arith, rest, first)
calls-unplaced from changes n (Some place ∷ places) none = absurd (cc)

-- the callbacks stay as they are
pub EachHeard-unplaced : {B : Type 0} {counted : B → ℕ} {told : B → Option (List Notification)} (from : ℕ) (changes : List Change) (places : List (Option ℕ)) (all : List B)
    → list_any is_some places ≡ false → EachHeard counted told (due from changes) places all all
EachHeard-unplaced {B} {counted} {told} from changes places all none = record {
  as_many = refl;
  each = λ i d inside. let x : B = slice_index_or all i d in
      subst (λ (place : Option ℕ). HasHeard counted told x x (notifications (due from changes place))) (sym (unplaced places i none)) (HasHeard-none x);
}
