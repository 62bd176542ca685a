-- Going over those of a list whose numbers rise, from each to the next.
use Rattle.std.proofs.Common.{◌≡◌, ℕ, ◌+◌, ◌<◌, ◌≤◌, true, false, cond, leb, List, [], ◌∷◌, map, filter, find, Option, Some, None, refl, sym, ◌∙◌, ap, subst, arith}
use Rattle.std.specs.List.{AllByRecursion}
use Rattle.std.specs.Option.{option_map}
use Rattle.std.proofs.lemmas.Bool.{leb-true, leb-false, le-leb, lt-leb}
use Rattle.drmaa_model.specs.Fit.{IsRising}

-- those from a number on
abbrev pub from_on : {X : Type 0} → (X → ℕ) → ℕ → List X → List X
from_on number n xs = filter (λ x. leb n (number x)) xs

-- the first of them
abbrev pub first_on : {X : Type 0} → (X → ℕ) → ℕ → List X → Option X
first_on number n xs = find (λ x. leb n (number x)) xs

module _ {X : Type 0} (number : X → ℕ) where
  all-on : (n : ℕ) (xs : List X) → AllByRecursion (λ y. n ≤ number y) xs → from_on number n xs ≡ xs
  all-on n [] all = refl
  all-on n (x ∷ xs) all =
      ap (λ b. cond b (x ∷ from_on number n xs) (from_on number n xs)) (le-leb n (number x) all.0) ∙ ap (λ ys. x ∷ ys) (all-on n xs all.1)

  up : (n : ℕ) (xs : List X) → AllByRecursion (λ y. n < number y) xs → AllByRecursion (λ y. n + 1 ≤ number y) xs
  up n [] all = tt
  up n (x ∷ xs) all = ((let h = all.0 in omega (arith, h)), up n xs all.1)

  along : (n m : ℕ) (xs : List X) → n < m → AllByRecursion (λ y. m < number y) xs → from_on number n xs ≡ xs
  along n m [] less all = refl
  along n m (x ∷ xs) less all =
      ap (λ b. cond b (x ∷ from_on number n xs) (from_on number n xs)) (le-leb n (number x) (let h = all.0 in omega (arith, h, less))) ∙ ap (λ ys. x ∷ ys) (along n m xs less all.1)

  pub on-all : (xs : List X) → from_on number 0 xs ≡ xs
  on-all [] = refl
  on-all (x ∷ xs) = ap (λ b. cond b (x ∷ from_on number 0 xs) (from_on number 0 xs)) (le-leb 0 (number x) (omega arith)) ∙ ap (λ ys. x ∷ ys) (on-all xs)

  -- where there is none, there are none
  pub on-none : (n : ℕ) (xs : List X) → first_on number n xs ≡ None → from_on number n xs ≡ []
  on-none n [] none = refl
  on-none n (x ∷ xs) none =
      (elim (leb n (number x)) as (λ b. cond b (Some x) (first_on number n xs) ≡ None → cond b (x ∷ from_on number n xs) (from_on number n xs) ≡ []) [
        | true ↦ λ e. absurd (cc)
        | false ↦ λ e. on-none n xs e
      ]) none

  weaken : (n m : ℕ) (xs : List X) → n ≤ m → AllByRecursion (λ y. m < number y) xs → AllByRecursion (λ y. n ≤ number y) xs
  weaken n m [] le all = tt
  weaken n m (x ∷ xs) le all = ((let h = all.0 in omega (arith, h, le)), weaken n m xs le all.1)

  found-on : (n : ℕ) (xs : List X) (y : X) → first_on number n xs ≡ Some y → n ≤ number y
  found-on n [] y found = absurd (cc)
  found-on n (x ∷ xs) y found =
      (elim (leb n (number x)) as (λ b. leb n (number x) ≡ b → cond b (Some x) (first_on number n xs) ≡ Some y → n ≤ number y) [
        | true ↦ λ le e. (let same : x ≡ y = cc in subst (λ (z : X). n ≤ number z) same (leb-true n (number x) le))
        | false ↦ λ le e. found-on n xs y e
      ]) refl found

  -- else the first is followed by those after it
  pub on-next : (n : ℕ) (xs : List X) (y : X) → IsRising number xs → first_on number n xs ≡ Some y → from_on number n xs ≡ y ∷ from_on number (number y + 1) xs
  on-next n [] y rising found = absurd (cc)
  on-next n (x ∷ xs) y rising found =
      (elim (leb n (number x)) as (λ b. leb n (number x) ≡ b → cond b (Some x) (first_on number n xs) ≡ Some y → cond b (x ∷ from_on number n xs) (from_on number n xs) ≡ y ∷ from_on number (number y + 1) (x ∷ xs)) [
        | true ↦ λ le e.
            (let same : x ≡ y = cc in
            let low = leb-true n (number x) le in
            let here : from_on number n xs ≡ xs = all-on n xs (weaken n (number x) xs low rising.0) in
            let rest : from_on number (number x + 1) (x ∷ xs) ≡ xs =
            ap (λ b. cond b (x ∷ from_on number (number x + 1) xs) (from_on number (number x + 1) xs)) (lt-leb (number x + 1) (number x) (omega arith))
            ∙ all-on (number x + 1) xs (up (number x) xs rising.0) in
            subst (λ (z : X). x ∷ from_on number n xs ≡ z ∷ from_on number (number z + 1) (x ∷ xs)) same
            (ap (λ ys. x ∷ ys) (here ∙ sym rest)))
        | false ↦ λ le e.
            (let high = leb-false n (number x) le in
            let above = found-on n xs y e in
            on-next n xs y rising.1 e
            ∙ ap (λ ys. y ∷ ys) (sym (ap (λ b. cond b (x ∷ from_on number (number y + 1) xs) (from_on number (number y + 1) xs)) (lt-leb (number y + 1) (number x) (omega (arith, high, above))))))
      ]) refl found

  -- those of a mapped list that keeps its numbers
  pub first-map : (f : X → X) → ((x : X) → number (f x) ≡ number x) → (n : ℕ) (xs : List X) → first_on number n (map f xs) ≡ option_map f (first_on number n xs)
  first-map f same n [] = refl
  first-map f same n (x ∷ xs) =
      ap (λ m. cond (leb n m) (Some (f x)) (first_on number n (map f xs))) (same x)
      ∙ (elim (leb n (number x)) as (λ b. cond b (Some (f x)) (first_on number n (map f xs)) ≡ option_map f (cond b (Some x) (first_on number n xs))) [
        | true ↦ refl
        | false ↦ first-map f same n xs
      ])

  -- what holds of each holds of the first
  pub first-all : (P : X → Type 0) (n : ℕ) (xs : List X) (y : X) → AllByRecursion P xs → first_on number n xs ≡ Some y → P y
  first-all P n [] y all found = absurd (cc)
  first-all P n (x ∷ xs) y all found =
      (elim (leb n (number x)) as (λ b. cond b (Some x) (first_on number n xs) ≡ Some y → P y) [
        | true ↦ λ e. (let same : x ≡ y = cc in subst P same all.0)
        | false ↦ λ e. first-all P n xs y all.1 e
      ]) found
