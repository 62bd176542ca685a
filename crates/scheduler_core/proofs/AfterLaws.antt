-- Laws of the first moment after another.
use Rattle.std.proofs.Common.{◌≡◌, ℕ, suc, ◌+◌, ◌-◌, ◌<◌, ◌≤◌, ◌==◌, Bool, true, false, cond, ltb, ◌||◌, inl, inr, List, [], ◌∷◌, ◌++◌, length, take, get_or, Option, Some, None, refl, sym, ◌∙◌, ap, arith}
use Rattle.std.specs.Prelude.{min}
use Rattle.std.proofs.Math.Seq.{take-suc}
use Rattle.std.specs.List.{list_any}
use Rattle.std.proofs.lemmas.Bool.{cases_lt, or_from, or_left, or_right, eq-eqb, ne_eqb, lt-ltb, le-ltb}
use Rattle.std.proofs.lemmas.List.Folds.{list_any-append}
use Rattle.drmaa_types.specs.Moments.{greatest}
use Rattle.drmaa_model.specs.Load.{first_from}
use Rattle.drmaa_model.specs.MomentLaws.{first-none, first-some, none-first, some-first, first_from-same}
use Rattle.drmaa_model.specs.Events.{first_after}
use Rattle.scheduler_core.specs.Afters.{earlier}

pub after-none : (after : ℕ) → first_after after (λ x. false) ≡ None
after-none after = none-first (λ x. false) (suc after) (greatest - after) (λ x low high. refl)

pub after-same : (after : ℕ) (t s : ℕ → Bool) → ((x : ℕ) → t x ≡ s x) → first_after after t ≡ first_after after s
after-same after t s same = first_from-same (suc after) (greatest - after) t s (λ x low. same x)

pub after-one : (after m : ℕ) → m ≤ greatest → first_after after (λ x. m == x) ≡ cond (ltb after m) (Some m) None
after-one after m within = elim (cases_lt after m) [
  | inl later ↦
      some-first (λ x. m == x) (suc after) (greatest - after) m (record { meets = eq-eqb m m refl; low = omega (arith, later); high = omega (arith, later, within); least = λ x low high. ne_eqb m x (λ e. omega (arith, high, e)) })
      ∙ sym (ap (λ b. cond b (Some m) None) (lt-ltb after m later))
  | inr early ↦
      none-first (λ x. m == x) (suc after) (greatest - after) (λ x low high. ne_eqb m x (λ e. omega (arith, early, low, e)))
      ∙ sym (ap (λ b. cond b (Some m) None) (le-ltb after m early))
]

module _ (from count : ℕ) (t s : ℕ → Bool) where
  or-first : (a b : Option ℕ) → first_from from count t ≡ a → first_from from count s ≡ b → first_from from count (λ x. t x || s x) ≡ earlier a b
  or-first None None e f = none-first (λ x. t x || s x) from count (λ x low high. or_from (t x) (s x) (first-none t from count e x low high) (first-none s from count f x low high))
  or-first None (Some n) e f =
      let one = first-some s from count n f in
      some-first (λ x. t x || s x) from count n (record {
        meets = or_right (t n) (s n) one.meets;
        low = one.low;
        high = one.high;
        least = λ x low high. or_from (t x) (s x) (first-none t from count e x low (let h = one.high in omega (arith, h, high))) (one.least x low high);
      })
  or-first (Some m) None e f =
      let one = first-some t from count m e in
      some-first (λ x. t x || s x) from count m (record {
        meets = or_left (t m) (s m) one.meets;
        low = one.low;
        high = one.high;
        least = λ x low high. or_from (t x) (s x) (one.least x low high) (first-none s from count f x low (let h = one.high in omega (arith, h, high)));
      })
  or-first (Some m) (Some n) e f =
      let one = first-some t from count m e in
      let two = first-some s from count n f in
      let one_high = one.high in
      let two_high = two.high in
      let one_low = one.low in
      let two_low = two.low in
      elim (cases_lt n m) [
        | inl below ↦
            (let same : min m n ≡ n = omega (arith, below) in
            some-first (λ x. t x || s x) from count n (record {
              meets = or_right (t n) (s n) two.meets;
              low = two.low;
              high = two.high;
              least = λ x low high. or_from (t x) (s x) (one.least x low (omega (arith, high, below))) (two.least x low high);
            }) ∙ ap (λ k. Some k) (sym same))
        | inr above ↦
            (let same : min m n ≡ m = omega (arith, above) in
            some-first (λ x. t x || s x) from count m (record {
              meets = or_left (t m) (s m) one.meets;
              low = one.low;
              high = one.high;
              least = λ x low high. or_from (t x) (s x) (one.least x low high) (two.least x low (omega (arith, high, above)));
            }) ∙ ap (λ k. Some k) (sym same))
      ]

-- the first moment that meets one of two tests is the earlier of the first ones
pub after-or : (after : ℕ) (t s : ℕ → Bool) → first_after after (λ x. t x || s x) ≡ earlier (first_after after t) (first_after after s)
after-or after t s = or-first (suc after) (greatest - after) t s (first_after after t) (first_after after s) refl refl

any-push : {X : Type 0} (t : X → Bool) (xs : List X) (x : X) → list_any t (xs ++ x ∷ []) ≡ (list_any t xs || t x)
any-push t [] x = elim (t x) as (λ b. (b || false) ≡ b) [ true ↦ refl | false ↦ refl ]
any-push t (y ∷ ys) x =
    ap (λ b. t y || b) (any-push t ys x)
    ∙ (elim (t y) as (λ b. (b || (list_any t ys || t x)) ≡ ((b || list_any t ys) || t x)) [ true ↦ refl | false ↦ refl ])

-- one element more
pub after-push : {X : Type 0} (after : ℕ) (t : ℕ → X → Bool) (xs : List X) (x : X)
    → first_after after (λ n. list_any (t n) (xs ++ x ∷ [])) ≡ earlier (first_after after (λ n. list_any (t n) xs)) (first_after after (λ n. t n x))
after-push after t xs x = after-same after (λ n. list_any (t n) (xs ++ x ∷ [])) (λ n. list_any (t n) xs || t n x) (λ n. any-push (t n) xs x) ∙ after-or after (λ n. list_any (t n) xs) (λ n. t n x)

pub if-later : (after m : ℕ) → m ≤ greatest → after < m → Some m ≡ first_after after (λ x. m == x)
if-later after m within later = sym (after-one after m within ∙ ap (λ b. cond b (Some m) None) (lt-ltb after m later))

pub if-early : (after m : ℕ) → m ≤ greatest → m ≤ after → None ≡ first_after after (λ x. m == x)
if-early after m within early = sym (after-one after m within ∙ ap (λ b. cond b (Some m) None) (le-ltb after m early))

pub joined : (after : ℕ) (t s : ℕ → Bool) (a b o : Option ℕ) → o ≡ earlier a b → a ≡ first_after after t → b ≡ first_after after s → o ≡ first_after after (λ x. t x || s x)
joined after t s a b o e f g = e ∙ ap (λ c. earlier c b) f ∙ ap (earlier (first_after after t)) g ∙ sym (after-or after t s)

-- a walk over a list keeps the first moment of those that it has seen
pub seen-more : {X : Type 0} (after : ℕ) (t : ℕ → X → Bool) (xs : List X) (i : ℕ) (x : X) (best next o : Option ℕ) → i < length xs → x ≡ get_or xs i x
    → best ≡ first_after after (λ n. list_any (t n) (take i xs)) → next ≡ first_after after (λ n. t n x) → o ≡ earlier best next → o ≡ first_after after (λ n. list_any (t n) (take (i + 1) xs))
seen-more {X} after t xs i x best next o low is e f g =
    let one : i + 1 ≡ suc i = omega arith in
    let grown : take (i + 1) xs ≡ take i xs ++ x ∷ [] = ap (λ (n : ℕ). take n xs) one ∙ take-suc xs i x low ∙ ap (λ (y : X). take i xs ++ y ∷ []) (sym is) in
    g ∙ ap (λ b. earlier b next) e ∙ ap (earlier (first_after after (λ n. list_any (t n) (take i xs)))) f
    ∙ sym (after-push after t (take i xs) x) ∙ ap (λ (ys : List X). first_after after (λ n. list_any (t n) ys)) (sym grown)

-- two lists
pub after-append : {X : Type 0} (after : ℕ) (t : ℕ → X → Bool) (xs ys : List X)
    → first_after after (λ n. list_any (t n) (xs ++ ys)) ≡ earlier (first_after after (λ n. list_any (t n) xs)) (first_after after (λ n. list_any (t n) ys))
after-append after t xs ys = after-same after (λ n. list_any (t n) (xs ++ ys)) (λ n. list_any (t n) xs || list_any (t n) ys) (λ n. list_any-append (t n) xs ys) ∙ after-or after (λ n. list_any (t n) xs) (λ n. list_any (t n) ys)
