-- One turn of a loop over rows, or over any list.
use Rattle.std.proofs.Common.{◌≡◌, ◌<◌, Bool, true, false, cond, ◌&&◌, ◌||◌, List, [], ◌∷◌, map, filter, length, refl, ◌∙◌, ap, arith}
use Rattle.std.specs.List.{list_any}

module _ {X : Type 0} (P t : X → Bool) (x : X) (xs rest : List X) (split : xs ≡ x ∷ rest) where
  -- one that passes both tests is found
  pub any-hit : (P x && t x) ≡ true → list_any t (filter P xs) ≡ true
  any-hit is =
      ap (λ ys. list_any t (filter P ys)) split
      ∙ (elim (P x) as (λ b. (b && t x) ≡ true → list_any t (cond b (x ∷ filter P rest) (filter P rest)) ≡ true) [
        | true ↦ λ e. ap (λ b. b || list_any t (filter P rest)) e
        | false ↦ λ e. absurd (cc)
      ]) is

  -- one that does not is passed over
  pub any-miss : (P x && t x) ≡ false → list_any t (filter P xs) ≡ list_any t (filter P rest)
  any-miss is =
      ap (λ ys. list_any t (filter P ys)) split
      ∙ (elim (P x) as (λ b. (b && t x) ≡ false → list_any t (cond b (x ∷ filter P rest) (filter P rest)) ≡ list_any t (filter P rest)) [
        | true ↦ λ e. ap (λ b. b || list_any t (filter P rest)) e
        | false ↦ λ e. refl
      ]) is

module _ {X Y : Type 0} (f : X → Y) (P : X → Bool) (x : X) (xs rest : List X) (split : xs ≡ x ∷ rest) where
  pub takes : P x ≡ true → map f (filter P xs) ≡ f x ∷ map f (filter P rest)
  takes is = ap (λ ys. map f (filter P ys)) split ∙ ap (λ b. map f (cond b (x ∷ filter P rest) (filter P rest))) is

  pub skips : P x ≡ false → map f (filter P xs) ≡ map f (filter P rest)
  skips is = ap (λ ys. map f (filter P ys)) split ∙ ap (λ b. map f (cond b (x ∷ filter P rest) (filter P rest))) is

-- fewer are left
pub shorter : {X : Type 0} (x : X) (xs rest : List X) → xs ≡ x ∷ rest → length rest < length xs
shorter x xs rest split = (let same = ap length split in omega (arith, same))

pub and-is : (a b c d : Bool) → a ≡ c → b ≡ d → (a && b) ≡ (c && d)
and-is a b c d p q = cc

-- both tests at once
pub filter-twice : {X : Type 0} (p q : X → Bool) (xs : List X) → filter p (filter q xs) ≡ filter (λ x. q x && p x) xs
filter-twice p q [] = refl
filter-twice p q (x ∷ xs) =
    elim (q x) as (λ b. filter p (cond b (x ∷ filter q xs) (filter q xs)) ≡ cond (b && p x) (x ∷ filter (λ y. q y && p y) xs) (filter (λ y. q y && p y) xs)) [
      | true ↦ (elim (p x) as (λ c. cond c (x ∷ filter p (filter q xs)) (filter p (filter q xs)) ≡ cond c (x ∷ filter (λ y. q y && p y) xs) (filter (λ y. q y && p y) xs)) [
        | true ↦ ap (λ ys. x ∷ ys) (filter-twice p q xs)
        | false ↦ filter-twice p q xs
      ])
      | false ↦ filter-twice p q xs
    ]
