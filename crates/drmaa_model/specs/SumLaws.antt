-- Laws of sums.
use Rattle.std.proofs.Common.{◌≡◌, ℕ, ◌+◌, ◌≤◌, Bool, true, false, cond, List, [], ◌∷◌, map, filter, sum_by, Some, refl, sym, ◌∙◌, ap, arith}
use Rattle.std.specs.Prelude.{find}
use Rattle.std.specs.List.{AllByRecursion}
use Rattle.std.proofs.lemmas.List.Sums.{sum_by-cons}

pub sum-each : {X : Type 0} (g h : X → ℕ) (xs : List X) → AllByRecursion (λ x. g x ≡ h x) xs → sum_by g xs ≡ sum_by h xs
sum-each g h [] all = refl
sum-each g h (x ∷ xs) all = omega (arith, all.0, sum-each g h xs all.1, sum_by-cons g x xs, sum_by-cons h x xs)

pub sum-same : {X : Type 0} (g h : X → ℕ) → ((x : X) → g x ≡ h x) → (xs : List X) → sum_by g xs ≡ sum_by h xs
sum-same g h each [] = refl
sum-same g h each (x ∷ xs) = omega (arith, each x, sum-same g h each xs, sum_by-cons g x xs, sum_by-cons h x xs)

pub sum-map : {X Y : Type 0} (g : Y → ℕ) (f : X → Y) (xs : List X) → sum_by g (map f xs) ≡ sum_by (λ x. g (f x)) xs
sum-map g f [] = refl
sum-map g f (x ∷ xs) = omega (arith, sum-map g f xs, sum_by-cons g (f x) (map f xs), sum_by-cons (λ y. g (f y)) x xs)

pub sum-filter : {X : Type 0} (g : X → ℕ) (test : X → Bool) (xs : List X) → sum_by g (filter test xs) ≡ sum_by (λ x. cond (test x) (g x) 0) xs
sum-filter g test [] = refl
sum-filter {X} g test (x ∷ xs) =
    (elim (test x) as (λ b. sum_by g (cond b (x ∷ filter test xs) (filter test xs)) ≡ cond b (g x) 0 + sum_by (λ (y : X). cond (test y) (g y) 0) xs) [
      | true ↦ omega (arith, sum_by-cons g x (filter test xs), sum-filter g test xs)
      | false ↦ omega (arith, sum-filter g test xs)
    ]) ∙ sym (sum_by-cons (λ (y : X). cond (test y) (g y) 0) x xs)

pub sum-le : {X : Type 0} (g h : X → ℕ) (xs : List X) → AllByRecursion (λ x. g x ≤ h x) xs → sum_by g xs ≤ sum_by h xs
sum-le g h [] all = omega arith
sum-le g h (x ∷ xs) all = omega (arith, all.0, sum-le g h xs all.1, sum_by-cons g x xs, sum_by-cons h x xs)

pub sum-zero : {X : Type 0} (xs : List X) → sum_by (λ (x : X). 0) xs ≡ 0
sum-zero [] = refl
sum-zero {X} (x ∷ xs) = omega (arith, sum-zero xs, sum_by-cons (λ (y : X). 0) x xs)

pub sum-add : {X : Type 0} (g h : X → ℕ) (xs : List X) → sum_by (λ x. g x + h x) xs ≡ sum_by g xs + sum_by h xs
sum-add g h [] = refl
sum-add g h (x ∷ xs) = omega (arith, sum-add g h xs, sum_by-cons g x xs, sum_by-cons h x xs, sum_by-cons (λ y. g y + h y) x xs)

pub sum-swap : {X Y : Type 0} (F : X → Y → ℕ) (xs : List X) (ys : List Y) → sum_by (λ x. sum_by (F x) ys) xs ≡ sum_by (λ y. sum_by (λ x. F x y) xs) ys
sum-swap F [] ys = sym (sum-zero ys)
sum-swap {X} {Y} F (x ∷ xs) ys =
    let each : sum_by (λ (y : Y). sum_by (λ (z : X). F z y) (x ∷ xs)) ys ≡ sum_by (λ (y : Y). F x y + sum_by (λ (z : X). F z y) xs) ys =
    sum-same (λ (y : Y). sum_by (λ (z : X). F z y) (x ∷ xs)) (λ (y : Y). F x y + sum_by (λ (z : X). F z y) xs) (λ y. sum_by-cons (λ (z : X). F z y) x xs) ys in
    omega (arith, sum-swap F xs ys, sum_by-cons (λ (z : X). sum_by (F z) ys) x xs, sum-add (F x) (λ (y : Y). sum_by (λ (z : X). F z y) xs) ys, each)

-- one gap is a gap of the sum
pub sum-gap : {X : Type 0} (g h : X → ℕ) (k : ℕ) (test : X → Bool) (a : X) (xs : List X) → AllByRecursion (λ x. g x ≤ h x) xs → find test xs ≡ Some a → g a + k ≤ h a → sum_by g xs + k ≤ sum_by h xs
sum-gap g h k test a [] all is gap = absurd (cc)
sum-gap g h k test a (x ∷ xs) all is gap =
    (elim (test x) as (λ t. cond t (Some x) (find test xs) ≡ Some a → sum_by g (x ∷ xs) + k ≤ sum_by h (x ∷ xs)) [
      | true ↦ λ e. (let same : x ≡ a = cc in omega (arith, ap g same, ap h same, gap, sum-le g h xs all.1, sum_by-cons g x xs, sum_by-cons h x xs))
      | false ↦ λ e. omega (arith, all.0, sum-gap g h k test a xs all.1 e gap, sum_by-cons g x xs, sum_by-cons h x xs)
    ]) is

-- what is found is within the sum
pub sum-has : {X : Type 0} (g : X → ℕ) (test : X → Bool) (a : X) (xs : List X) → find test xs ≡ Some a → g a ≤ sum_by g xs
sum-has g test a [] is = absurd (cc)
sum-has g test a (x ∷ xs) is =
    (elim (test x) as (λ t. cond t (Some x) (find test xs) ≡ Some a → g a ≤ sum_by g (x ∷ xs)) [
      | true ↦ λ e. (let same : x ≡ a = cc in omega (arith, ap g same, sum_by-cons g x xs))
      | false ↦ λ e. omega (arith, sum-has g test a xs e, sum_by-cons g x xs)
    ]) is
