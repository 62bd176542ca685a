-- The first element of a number or above it, in a list that is in order of number.
use Rattle.std.proofs.Common.{◌≡◌, ℕ, zero, suc, ◌<◌, ◌≤◌, nat_le, nat_lt, Bool, true, false, ◌&&◌, List, [], ◌∷◌, length, get_or, drop, find, cond, Some, None, refl, sym, ap, ◌∙◌, arith}
use Rattle.std.specs.List.{AllByRecursion}
use Rattle.std.specs.List.Sorted.{IsNonDecreasingBy}
use Rattle.std.proofs.lemmas.Bool.Decides.{nat_tests}
use Rattle.drmaa_model.specs.Fit.{IsRising}

module _ {X : Type 0} (number : X → ℕ) where
  all-at : (P : X → Type 0) (xs : List X) → AllByRecursion P xs → (i : ℕ) (d : X) → i < length xs → P (get_or xs i d)
  all-at P [] all i d within = absurd (omega (arith, within))
  all-at P (x ∷ xs) all zero d within = all.0
  all-at P (x ∷ xs) all (suc i) d within = all-at P xs all.1 i d (omega (arith, within))

  rises : (xs : List X) → IsRising number xs → (i j : ℕ) (d : X) → i ≤ j → j < length xs → number (get_or xs i d) ≤ number (get_or xs j d)
  rises [] rising i j d le within = absurd (omega (arith, within))
  rises (x ∷ xs) rising zero zero d le within = omega arith
  rises (x ∷ xs) rising (suc i) zero d le within = absurd (omega (arith, le))
  rises (x ∷ xs) rising zero (suc j) d le within = let less = all-at (λ y. number x < number y) xs rising.0 j d (omega (arith, within)) in omega (arith, less)
  rises (x ∷ xs) rising (suc i) (suc j) d le within = rises xs rising.1 i j d (omega (arith, le)) (omega (arith, within))

  pub never_falls : (xs : List X) → IsRising number xs → IsNonDecreasingBy number xs
  never_falls xs rising = λ i j d le within. rises xs rising i j d le within

  -- a number that isn't below another one is at it or above it
  at_least : (n m : ℕ) → nat_lt m n ≡ false → nat_le n m ≡ true
  at_least n m h = grind (arith, nat_tests)

  too_low : (n m : ℕ) → nat_lt m n ≡ true → nat_le n m ≡ false
  too_low n m h = grind (arith, nat_tests)

  pub find-first : (n : ℕ) (xs : List X) (i : ℕ) (d : X) → ((k : ℕ) (e : X) → k < i → nat_lt (number (get_or xs k e)) n ≡ true)
      → ((k : ℕ) (e : X) → i ≤ k → k < length xs → nat_lt (number (get_or xs k e)) n ≡ false) → i < length xs
      → find (λ x. nat_le n (number x)) xs ≡ Some (get_or xs i d)
  find-first n [] i d below above within = absurd (omega (arith, within))
  find-first n (x ∷ xs) zero d below above within =
      ap (λ b. cond b (Some x) (find (λ y. nat_le n (number y)) xs)) (at_least n (number x) (above 0 x (omega arith) (omega arith)))
  find-first n (x ∷ xs) (suc i) d below above within =
      ap (λ b. cond b (Some x) (find (λ y. nat_le n (number y)) xs)) (too_low n (number x) (below 0 x (omega arith)))
      ∙ find-first n xs i d (λ k e less. below (suc k) e (omega (arith, less))) (λ k e le inside. above (suc k) e (omega (arith, le)) (omega (arith, inside))) (omega (arith, within))

  pub find-past : (n : ℕ) (xs : List X) → ((k : ℕ) (e : X) → k < length xs → nat_lt (number (get_or xs k e)) n ≡ true) → find (λ x. nat_le n (number x)) xs ≡ None
  find-past n [] below = refl
  find-past n (x ∷ xs) below =
      ap (λ b. cond b (Some x) (find (λ y. nat_le n (number y)) xs)) (too_low n (number x) (below 0 x (omega arith)))
      ∙ find-past n xs (λ k e inside. below (suc k) e (omega (arith, inside)))

  all-from : (test : X → Bool) (n : ℕ) (xs : List X) → ((k : ℕ) (e : X) → k < length xs → nat_lt (number (get_or xs k e)) n ≡ false)
      → find test xs ≡ find (λ x. test x && nat_le n (number x)) xs
  all-from test n [] above = refl
  all-from test n (x ∷ xs) above =
      (elim (test x) as (λ t. cond t (Some x) (find test xs) ≡ cond (t && true) (Some x) (find (λ y. test y && nat_le n (number y)) xs)) [
        | true ↦ refl
        | false ↦ all-from test n xs (λ k e inside. above (suc k) e (omega (arith, inside)))
      ])
      ∙ sym (ap (λ b. cond (test x && b) (Some x) (find (λ y. test y && nat_le n (number y)) xs)) (at_least n (number x) (above 0 x (omega arith))))

  -- the first that passes a test from a number on is the first that passes it behind those of lesser numbers
  pub find-from : (test : X → Bool) (n : ℕ) (xs : List X) (i : ℕ) → ((k : ℕ) (e : X) → k < i → k < length xs → nat_lt (number (get_or xs k e)) n ≡ true)
      → ((k : ℕ) (e : X) → i ≤ k → k < length xs → nat_lt (number (get_or xs k e)) n ≡ false)
      → find test (drop i xs) ≡ find (λ x. test x && nat_le n (number x)) xs
  find-from test n [] zero below above = refl
  find-from test n [] (suc i) below above = refl
  find-from test n (x ∷ xs) zero below above = all-from test n (x ∷ xs) (λ k e inside. above k e (omega arith) inside)
  find-from test n (x ∷ xs) (suc i) below above =
      find-from test n xs i (λ k e less inside. below (suc k) e (omega (arith, less)) (omega (arith, inside))) (λ k e le inside. above (suc k) e (omega (arith, le)) (omega (arith, inside)))
      ∙ (elim (test x) as (λ t. find (λ y. test y && nat_le n (number y)) xs ≡ cond (t && false) (Some x) (find (λ y. test y && nat_le n (number y)) xs)) [ true ↦ refl | false ↦ refl ])
      ∙ sym (ap (λ b. cond (test x && b) (Some x) (find (λ y. test y && nat_le n (number y)) xs)) (too_low n (number x) (below 0 x (omega arith) (omega arith))))
