-- What becomes of a list at its first element that meets a test.
use Rattle.std.proofs.Common.{◌≡◌, ◌||◌, ◌+◌, ℕ, zero, suc, ◌<◌, Bool, true, false, cond, List, [], ◌∷◌, length, get_or, set, refl, sym, ◌∙◌, ap, arith}
use Rattle.std.specs.List.{list_any, remove}
use Rattle.std.proofs.lemmas.List.{get_or_default}
use Rattle.drmaa_model.specs.declared.courses.Order.{Order}
use Rattle.drmaa_model.specs.Launching.{take_first}
use Rattle.drmaa_model.specs.Reporting.{drop_first}
use Rattle.plan_book.specs.Places.{IsFirstTo}

module _ (test : Order → Bool) where
  tail : (x : Order) (xs : List Order) (i : ℕ) → IsFirstTo test (x ∷ xs) (suc i) → IsFirstTo test xs i
  tail x xs i first = record { within = omega (arith, first.within); meets = λ d. first.meets d; before = λ k d less. first.before (suc k) d (omega (arith, less)) }

  pub taken-at : (xs : List Order) (i : ℕ) (d : Order) → IsFirstTo test xs i → set xs i (record (get_or xs i d) { taken = true }) ≡ take_first test xs
  taken-at [] i d first = absurd (omega (arith, first.within))
  taken-at (x ∷ xs) zero d first = sym (ap (λ b. cond b (record x { taken = true } ∷ xs) (x ∷ take_first test xs)) (first.meets d))
  taken-at (x ∷ xs) (suc i) d first =
      ap (λ ys. x ∷ ys) (taken-at xs i d (tail x xs i first))
      ∙ sym (ap (λ b. cond b (record x { taken = true } ∷ xs) (x ∷ take_first test xs)) (first.before 0 d (omega arith)))

  pub dropped-at : (xs : List Order) (i : ℕ) (d : Order) → IsFirstTo test xs i → remove xs i ≡ drop_first test xs
  dropped-at [] i d first = absurd (omega (arith, first.within))
  dropped-at (x ∷ xs) zero d first = sym (ap (λ b. cond b xs (x ∷ drop_first test xs)) (first.meets d))
  dropped-at (x ∷ xs) (suc i) d first =
      ap (λ ys. x ∷ ys) (dropped-at xs i d (tail x xs i first))
      ∙ sym (ap (λ b. cond b xs (x ∷ drop_first test xs)) (first.before 0 d (omega arith)))

  pub taken-none : (xs : List Order) → list_any test xs ≡ false → take_first test xs ≡ xs
  taken-none [] none = refl
  taken-none (x ∷ xs) none =
      (elim (test x) as (λ b. (b || list_any test xs) ≡ false → cond b (record x { taken = true } ∷ xs) (x ∷ take_first test xs) ≡ x ∷ xs) [
        | true ↦ λ e. absurd (cc)
        | false ↦ λ e. ap (λ ys. x ∷ ys) (taken-none xs e)
      ]) none

  pub dropped-none : (xs : List Order) → list_any test xs ≡ false → drop_first test xs ≡ xs
  dropped-none [] none = refl
  dropped-none (x ∷ xs) none =
      (elim (test x) as (λ b. (b || list_any test xs) ≡ false → cond b xs (x ∷ drop_first test xs) ≡ x ∷ xs) [
        | true ↦ λ e. absurd (cc)
        | false ↦ λ e. ap (λ ys. x ∷ ys) (dropped-none xs e)
      ]) none

  -- where none of the list meets it
  pub none-any : (xs : List Order) → ((k : ℕ) (d : Order) → k < length xs → test (get_or xs k d) ≡ false) → list_any test xs ≡ false
  none-any [] none = refl
  none-any (x ∷ xs) none = ap (λ b. b || list_any test xs) (none 0 x (omega arith)) ∙ none-any xs (λ k d within. none (suc k) d (omega (arith, within)))

  -- none of the first elements meets it, and neither does the next one
  pub none-next : (xs : List Order) (i : ℕ) (e : Order) → i < length xs → test (get_or xs i e) ≡ false → ((k : ℕ) (d : Order) → k < i → test (get_or xs k d) ≡ false)
      → (k : ℕ) (d : Order) → k < i + 1 → test (get_or xs k d) ≡ false
  none-next xs i e within fails before k d low =
      grind (
        arith,
        λ (less : k < i). before k d less,
        λ (same : k ≡ i). ap (λ (n : ℕ). test (get_or xs n d)) same ∙ ap test (get_or_default xs i d e within) ∙ fails,
      )
