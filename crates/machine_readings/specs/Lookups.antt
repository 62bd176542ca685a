-- Looking for one number among those that have distinct numbers.
use Rattle.std.proofs.Common.{◌≡◌, ℕ, ◌<◌, Bool, true, false, cond, eqb, ◌&&◌, ◌||◌, List, [], ◌∷◌, filter, find, Some, refl, ◌∙◌, ap, subst, arith}
use Rattle.std.specs.Prelude.{is_some}
use Rattle.std.specs.List.{AllByRecursion, list_any}
use Rattle.std.specs.Option.{option_map_or}
use Rattle.std.proofs.lemmas.Bool.{eqb-true, ne_eqb, or_right}
use Rattle.drmaa_model.specs.Fit.{IsRising}

-- one of those that pass a test is one of all
pub any-filter : {X : Type 0} (test P : X → Bool) (xs : List X) → list_any test (filter P xs) ≡ true → list_any test xs ≡ true
any-filter test P [] is = is
any-filter test P (x ∷ xs) is =
    (elim (P x) as (λ b. list_any test (cond b (x ∷ filter P xs) (filter P xs)) ≡ true → (test x || list_any test xs) ≡ true) [
      | true ↦ λ e.
          (elim (test x) as (λ t. (t || list_any test (filter P xs)) ≡ true → (t || list_any test xs) ≡ true) [
            | true ↦ λ h. refl
            | false ↦ λ h. any-filter test P xs h
          ]) e
      | false ↦ λ e. or_right (test x) (list_any test xs) (any-filter test P xs e)
    ]) is

-- one that passes both tests passes the second
pub any-both : {X : Type 0} (test P : X → Bool) (xs : List X) → list_any (λ x. test x && P x) xs ≡ true → list_any test xs ≡ true
any-both test P [] is = is
any-both test P (x ∷ xs) is =
    (elim (test x) as (λ t. ((t && P x) || list_any (λ y. test y && P y) xs) ≡ true → (t || list_any test xs) ≡ true) [
      | true ↦ λ h. refl
      | false ↦ λ h. any-both test P xs h
    ]) is

-- there is one exactly where one is found
pub any-found : {X : Type 0} (test : X → Bool) (xs : List X) → list_any test xs ≡ is_some (find test xs)
any-found test [] = refl
any-found test (x ∷ xs) =
    elim (test x) as (λ t. (t || list_any test xs) ≡ is_some (cond t (Some x) (find test xs))) [
      | true ↦ refl
      | false ↦ any-found test xs
    ]

module _ {X : Type 0} (number : X → ℕ) where
  absent : (P : X → Bool) (n : ℕ) (xs : List X) → AllByRecursion (λ y. n < number y) xs → list_any (λ x. eqb (number x) n) (filter P xs) ≡ false
  absent P n [] above = refl
  absent P n (x ∷ xs) above =
      elim (P x) as (λ b. list_any (λ y. eqb (number y) n) (cond b (x ∷ filter P xs) (filter P xs)) ≡ false) [
        | true ↦ ap (λ b. b || list_any (λ y. eqb (number y) n) (filter P xs)) (ne_eqb (number x) n (λ e. (let up = above.0 in omega (arith, up, e)))) ∙ absent P n xs above.1
        | false ↦ absent P n xs above.1
      ]

  absent-both : (P : X → Bool) (n : ℕ) (xs : List X) → AllByRecursion (λ y. n < number y) xs → list_any (λ x. eqb (number x) n && P x) xs ≡ false
  absent-both P n [] above = refl
  absent-both P n (x ∷ xs) above =
      ap (λ b. (b && P x) || list_any (λ y. eqb (number y) n && P y) xs) (ne_eqb (number x) n (λ e. (let up = above.0 in omega (arith, up, e)))) ∙ absent-both P n xs above.1

  above : (n : ℕ) (x : X) (xs : List X) → number x ≡ n → AllByRecursion (λ y. number x < number y) xs → AllByRecursion (λ y. n < number y) xs
  above n x xs is all = subst (λ m. AllByRecursion (λ (y : X). m < number y) xs) is all

  -- the number is among those that pass a test exactly where the one of this number passes it
  pub any-one : (P : X → Bool) (n : ℕ) (xs : List X) → IsRising number xs → list_any (λ x. eqb (number x) n) (filter P xs) ≡ option_map_or P (find (λ x. eqb (number x) n) xs) false
  any-one P n [] rising = refl
  any-one P n (x ∷ xs) rising =
      (elim (eqb (number x) n) as (λ b. eqb (number x) n ≡ b → list_any (λ y. eqb (number y) n) (cond (P x) (x ∷ filter P xs) (filter P xs)) ≡ option_map_or P (cond b (Some x) (find (λ y. eqb (number y) n) xs)) false) [
        | true ↦ λ e.
            (elim (P x) as (λ t. list_any (λ y. eqb (number y) n) (cond t (x ∷ filter P xs) (filter P xs)) ≡ t) [
              | true ↦ ap (λ b. b || list_any (λ y. eqb (number y) n) (filter P xs)) e
              | false ↦ absent P n xs (above n x xs (eqb-true (number x) n e) rising.0)
            ])
        | false ↦ λ e.
            (elim (P x) as (λ t. list_any (λ y. eqb (number y) n) (cond t (x ∷ filter P xs) (filter P xs)) ≡ option_map_or P (find (λ y. eqb (number y) n) xs) false) [
              | true ↦ ap (λ b. b || list_any (λ y. eqb (number y) n) (filter P xs)) e ∙ any-one P n xs rising.1
              | false ↦ any-one P n xs rising.1
            ])
      ]) refl

  -- the same, where the number and the test are asked at once
  pub any-one_both : (P : X → Bool) (n : ℕ) (xs : List X) → IsRising number xs → list_any (λ x. eqb (number x) n && P x) xs ≡ option_map_or P (find (λ x. eqb (number x) n) xs) false
  any-one_both P n [] rising = refl
  any-one_both P n (x ∷ xs) rising =
      (elim (eqb (number x) n) as (λ b. eqb (number x) n ≡ b → ((b && P x) || list_any (λ y. eqb (number y) n && P y) xs) ≡ option_map_or P (cond b (Some x) (find (λ y. eqb (number y) n) xs)) false) [
        | true ↦ λ e.
            (elim (P x) as (λ t. (t || list_any (λ y. eqb (number y) n && P y) xs) ≡ t) [
              | true ↦ refl
              | false ↦ absent-both P n xs (above n x xs (eqb-true (number x) n e) rising.0)
            ])
        | false ↦ λ e. any-one_both P n xs rising.1
      ]) refl
