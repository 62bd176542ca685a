-- What a search by halves finds in a list that is in order of number.
use Rattle.std.proofs.Common.{◌≡◌, ◌≢◌, ℕ, zero, suc, ◌<◌, ◌≤◌, Bool, true, false, cond, not, ◌&&◌, eqb, List, [], ◌∷◌, ◌++◌, length, take, drop, get_or, set, map, filter, find, Option, Some, None, Result, Ok, Err, IfOk, IfErr, refl, sym, ◌∙◌, ap, arith}
use Rattle.std.specs.Prelude.{is_some}
use Rattle.std.specs.Option.{option_map, option_map_or}
use Rattle.std.specs.List.{AllByRecursion, remove}
use Rattle.std.specs.List.Sorted.{IsSearchInRange, IsBinarySearchResult, IsNonDecreasingBy}
use Rattle.std.specs.Ordering.{nat_cmp, ordering_index}
use Rattle.std.proofs.lemmas.Bool.{eqb-true, eq-eqb, ne_eqb}
use Rattle.std.proofs.lemmas.Bool.Decides.{nat_tests}
use Rattle.std.proofs.lemmas.Cmp.{ranked}
use Rattle.drmaa_model.specs.Fit.{IsRising}
use Rattle.drmaa_model.specs.RowLaws.{all-filter, all-implied, all-map}
use Rattle.plan_book.specs.Places.{IsAt}

-- what holds of each element holds of all
pub all-from : {X : Type 0} (P : X → Type 0) (xs : List X) → ((k : ℕ) (d : X) → k < length xs → P (get_or xs k d)) → AllByRecursion P xs
all-from P [] each = tt
all-from P (x ∷ xs) each = (each zero x (omega arith), all-from P xs (λ k d within. each (suc k) d (omega (arith, within))))

pub all-taken : {X : Type 0} (P : X → Type 0) (xs : List X) (i : ℕ) → ((k : ℕ) (d : X) → k < i → k < length xs → P (get_or xs k d)) → AllByRecursion P (take i xs)
all-taken P xs zero each = tt
all-taken P [] (suc i) each = tt
all-taken P (x ∷ xs) (suc i) each = (each zero x (omega arith) (omega arith), all-taken P xs i (λ k d low within. each (suc k) d (omega (arith, low)) (omega (arith, within))))

pub all-dropped : {X : Type 0} (P : X → Type 0) (xs : List X) (i : ℕ) → ((k : ℕ) (d : X) → i ≤ k → k < length xs → P (get_or xs k d)) → AllByRecursion P (drop i xs)
all-dropped P xs zero each = all-from P xs (λ k d within. each k d (omega arith) within)
all-dropped P [] (suc i) each = tt
all-dropped P (x ∷ xs) (suc i) each = all-dropped P xs i (λ k d high within. each (suc k) d (omega (arith, high)) (omega (arith, within)))

module _ {X : Type 0} (number : X → ℕ) where
  pub all-at : (P : X → Type 0) (xs : List X) → AllByRecursion P xs → (i : ℕ) (d : X) → i < length xs → P (get_or xs i d)
  all-at P [] all i d within = absurd (omega (arith, within))
  all-at P (x ∷ xs) all zero d within = all.0
  all-at P (x ∷ xs) all (suc i) d within = all-at P xs all.1 i d (omega (arith, within))

  pub rising-at : (xs : List X) → IsRising number xs → (i j : ℕ) (d : X) → i < j → j < length xs → number (get_or xs i d) < number (get_or xs j d)
  rising-at [] rising i j d less within = absurd (omega (arith, within))
  rising-at (x ∷ xs) rising i zero d less within = absurd (omega (arith, less))
  rising-at (x ∷ xs) rising zero (suc j) d less within = all-at (λ y. number x < number y) xs rising.0 j d (omega (arith, within))
  rising-at (x ∷ xs) rising (suc i) (suc j) d less within = rising-at xs rising.1 i j d (omega (arith, less)) (omega (arith, within))

  at-tail : (n : ℕ) (x : X) (xs : List X) (i : ℕ) → IsAt number n (x ∷ xs) (suc i) → IsAt number n xs i
  at-tail n x xs i at = record { within = omega (arith, at.within); there = λ d. at.there d }

  below : (n : ℕ) (x : X) (xs : List X) (i : ℕ) → IsRising number (x ∷ xs) → IsAt number n (x ∷ xs) (suc i) → number x < n
  below n x xs i rising at =
      (let less = all-at (λ y. number x < number y) xs rising.0 i x (omega (arith, at.within)) in
      let is = at.there x in omega (arith, less, is))

  -- the element at the place is the one that is found
  pub find-at : (n : ℕ) (xs : List X) (i : ℕ) (d : X) → IsRising number xs → IsAt number n xs i → find (λ x. eqb (number x) n) xs ≡ Some (get_or xs i d)
  find-at n [] i d rising at = absurd (omega (arith, at.within))
  find-at n (x ∷ xs) zero d rising at = ap (λ b. cond b (Some x) (find (λ y. eqb (number y) n) xs)) (eq-eqb (number x) n (at.there x))
  find-at n (x ∷ xs) (suc i) d rising at =
      (let less = below n x xs i rising at in
      ap (λ b. cond b (Some x) (find (λ y. eqb (number y) n) xs)) (ne_eqb (number x) n (λ e. omega (arith, less, e)))
      ∙ find-at n xs i d rising.1 (at-tail n x xs i at))

  -- no element has the number, so none is found
  pub find-none : (n : ℕ) (xs : List X) → ((k : ℕ) (d : X) → k < length xs → number (get_or xs k d) ≢ n) → find (λ x. eqb (number x) n) xs ≡ None
  find-none n [] none = refl
  find-none n (x ∷ xs) none =
      ap (λ b. cond b (Some x) (find (λ y. eqb (number y) n) xs)) (ne_eqb (number x) n (none 0 x (omega arith)))
      ∙ find-none n xs (λ k d within. none (suc k) d (omega (arith, within)))

  find-above : (n : ℕ) (xs : List X) → AllByRecursion (λ y. n < number y) xs → find (λ x. eqb (number x) n) xs ≡ None
  find-above n [] all = refl
  find-above n (x ∷ xs) all =
      ap (λ b. cond b (Some x) (find (λ y. eqb (number y) n) xs)) (ne_eqb (number x) n (λ e. (let above = all.0 in omega (arith, above, e))))
      ∙ find-above n xs all.1

  -- a search by halves ends at the element of the number, or there is none
  pub searched : (xs : List X) → IsRising number xs → (n : ℕ) (r : Result ℕ ℕ) → IsSearchInRange r (length xs) → IsBinarySearchResult (λ x. nat_cmp (number x) n) xs r
      → record { found : IfOk r (IsAt number n xs); absent : IfErr r (λ (i : ℕ). find (λ x. eqb (number x) n) xs ≡ None) }
  searched xs rising n (Ok i) within equal = record { found = record { within = within; there = λ d. ranked _ n _ (sym (equal d)) }; absent = tt }
  searched xs rising n (Err i) within parted =
      (let rise : IsNonDecreasingBy (λ x. ordering_index (nat_cmp (number x) n)) xs =
      (λ a b d le inside.
      (let up : number (get_or xs a d) ≤ number (get_or xs b d) = grind (arith, rising-at xs rising a b d, λ (same : a ≡ b). ap (λ k. number (get_or xs k d)) same) in
      grind (arith, nat_tests))) in
      let point = parted rise in
      record {
        found = tt;
        absent = find-none n xs (λ k d inside same. grind (arith, λ (low : k < i). ranked _ n _ (sym (point.0 k d (omega arith) low)), λ (high : i ≤ k). ranked _ n _ (sym (point.1 k d high inside))));
      })

  -- the numbers don't fall
  pub rising-by : (xs : List X) → IsRising number xs → IsNonDecreasingBy number xs
  rising-by xs rising = λ a b d le inside. grind (arith, rising-at xs rising a b d, λ (same : a ≡ b). ap (λ k. number (get_or xs k d)) same)

  -- where there is none, those before the place have lesser numbers, and those from it on greater ones
  pub parted : (xs : List X) → IsRising number xs → (n : ℕ) (r : Result ℕ ℕ) → IsSearchInRange r (length xs) → IsBinarySearchResult (λ x. nat_cmp (number x) n) xs r
      → record { below : IfErr r (λ (i : ℕ). AllByRecursion (λ x. number x < n) (take i xs)); above : IfErr r (λ (i : ℕ). AllByRecursion (λ x. n < number x) (drop i xs)); within : IfErr r (λ (i : ℕ). i ≤ length xs) }
  parted xs rising n (Ok i) within equal = record { below = tt; above = tt; within = tt }
  parted xs rising n (Err i) within split =
      (let rise : IsNonDecreasingBy (λ x. ordering_index (nat_cmp (number x) n)) xs =
      (λ a b d le inside.
      (let up : number (get_or xs a d) ≤ number (get_or xs b d) = rising-by xs rising a b d le inside in
      grind (arith, nat_tests))) in
      let point = split rise in
      record {
        below = all-taken (λ x. number x < n) xs i (λ k d low inside. ranked _ n _ (sym (point.0 k d (omega arith) low)));
        above = all-dropped (λ x. n < number x) xs i (λ k d high inside. ranked _ n _ (sym (point.1 k d high inside)));
        within = within;
      })

  -- ---- putting in at the place

  all-inserted : (P : X → Type 0) (xs : List X) (i : ℕ) (x : X) → AllByRecursion P xs → P x → AllByRecursion P (take i xs ++ x ∷ drop i xs)
  all-inserted P xs zero x all here = (here, all)
  all-inserted P [] (suc i) x all here = (here, tt)
  all-inserted P (y ∷ ys) (suc i) x all here = (all.0, all-inserted P ys i x all.1 here)

  pub rising-inserted : (xs : List X) (i : ℕ) (x : X) → IsRising number xs → AllByRecursion (λ y. number y < number x) (take i xs) → AllByRecursion (λ y. number x < number y) (drop i xs)
      → IsRising number (take i xs ++ x ∷ drop i xs)
  rising-inserted xs zero x rising below above = (above, rising)
  rising-inserted [] (suc i) x rising below above = (tt, tt)
  rising-inserted (y ∷ ys) (suc i) x rising below above = (all-inserted (λ z. number y < number z) ys i x rising.0 below.0, rising-inserted ys i x rising.1 below.1 above)

  -- it is found by its number, and the others by theirs
  pub find-beside : (n : ℕ) (xs : List X) (i : ℕ) (x : X) → eqb (number x) n ≡ false → find (λ y. eqb (number y) n) (take i xs ++ x ∷ drop i xs) ≡ find (λ y. eqb (number y) n) xs
  find-beside n xs zero x other = ap (λ b. cond b (Some x) (find (λ y. eqb (number y) n) xs)) other
  find-beside n [] (suc i) x other = ap (λ b. cond b (Some x) None) other
  find-beside n (y ∷ ys) (suc i) x other = ap (λ (o : Option X). cond (eqb (number y) n) (Some y) o) (find-beside n ys i x other)

  pub find-inserted : (n : ℕ) (xs : List X) (i : ℕ) (x : X) → eqb (number x) n ≡ true → find (λ y. eqb (number y) n) xs ≡ None → find (λ y. eqb (number y) n) (take i xs ++ x ∷ drop i xs) ≡ Some x
  find-inserted n xs zero x is none = ap (λ b. cond b (Some x) (find (λ y. eqb (number y) n) xs)) is
  find-inserted n [] (suc i) x is none = ap (λ b. cond b (Some x) None) is
  find-inserted n (y ∷ ys) (suc i) x is none =
      (elim (eqb (number y) n) as (λ b. cond b (Some y) (find (λ z. eqb (number z) n) ys) ≡ None → cond b (Some y) (find (λ z. eqb (number z) n) (take i ys ++ x ∷ drop i ys)) ≡ Some x) [
        | true ↦ λ e. absurd (cc)
        | false ↦ λ e. find-inserted n ys i x is e
      ]) none

  -- ---- elements that keep their numbers

  pub rising-mapped : (g : X → X) → ((x : X) → number (g x) ≡ number x) → (xs : List X) → IsRising number xs → IsRising number (map g xs)
  rising-mapped g same [] rising = tt
  rising-mapped g same (x ∷ xs) rising = (
    all-map (λ y. number (g x) < number y) g xs (all-implied (λ y. number x < number y) (λ y. number (g x) < number (g y)) (λ y less. omega (arith, less, same x, same y)) xs rising.0),
    rising-mapped g same xs rising.1,
  )

  pub find-mapped : (g : X → X) → ((x : X) → number (g x) ≡ number x) → (n : ℕ) (xs : List X) → find (λ y. eqb (number y) n) (map g xs) ≡ option_map g (find (λ y. eqb (number y) n) xs)
  find-mapped g same n [] = refl
  find-mapped g same n (x ∷ xs) =
      ap (λ m. cond (eqb m n) (Some (g x)) (find (λ y. eqb (number y) n) (map g xs))) (same x)
      ∙ (elim (eqb (number x) n) as (λ b. cond b (Some (g x)) (find (λ y. eqb (number y) n) (map g xs)) ≡ option_map g (cond b (Some x) (find (λ y. eqb (number y) n) xs))) [
        | true ↦ refl
        | false ↦ find-mapped g same n xs
      ])

  -- ---- writing at the place

  map-above : (n : ℕ) (f : X → X) (xs : List X) → AllByRecursion (λ y. n < number y) xs → map (λ x. cond (eqb (number x) n) (f x) x) xs ≡ xs
  map-above n f [] all = refl
  map-above n f (x ∷ xs) all =
      ap (λ b. cond b (f x) x ∷ map (λ y. cond (eqb (number y) n) (f y) y) xs) (ne_eqb (number x) n (λ e. (let above = all.0 in omega (arith, above, e))))
      ∙ ap (λ ys. x ∷ ys) (map-above n f xs all.1)

  pub set-at : (n : ℕ) (f : X → X) (xs : List X) (i : ℕ) (d : X) → IsRising number xs → IsAt number n xs i → set xs i (f (get_or xs i d)) ≡ map (λ x. cond (eqb (number x) n) (f x) x) xs
  set-at n f [] i d rising at = absurd (omega (arith, at.within))
  set-at n f (x ∷ xs) zero d rising at =
      sym (ap (λ b. cond b (f x) x ∷ map (λ y. cond (eqb (number y) n) (f y) y) xs) (eq-eqb (number x) n (at.there x))
      ∙ ap (λ ys. f x ∷ ys) (map-above n f xs (all-implied (λ y. number x < number y) (λ y. n < number y) (λ y less. (let is = at.there x in omega (arith, less, is))) xs rising.0)))
  set-at n f (x ∷ xs) (suc i) d rising at =
      (let less = below n x xs i rising at in
      ap (λ ys. x ∷ ys) (set-at n f xs i d rising.1 (at-tail n x xs i at))
      ∙ sym (ap (λ b. cond b (f x) x ∷ map (λ y. cond (eqb (number y) n) (f y) y) xs) (ne_eqb (number x) n (λ e. omega (arith, less, e)))))

  -- ---- the others

  -- all but the element at the place have other numbers
  pub others-before : (n : ℕ) (xs : List X) (i : ℕ) → IsRising number xs → IsAt number n xs i → AllByRecursion (λ x. eqb (number x) n ≡ false) (take i xs)
  others-before n [] i rising at = absurd (omega (arith, at.within))
  others-before n (x ∷ xs) zero rising at = tt
  others-before n (x ∷ xs) (suc i) rising at =
      (let less = below n x xs i rising at in
      (ne_eqb (number x) n (λ e. omega (arith, less, e)), others-before n xs i rising.1 (at-tail n x xs i at)))

  pub others-behind : (n : ℕ) (xs : List X) (i : ℕ) → IsRising number xs → IsAt number n xs i → AllByRecursion (λ x. eqb (number x) n ≡ false) (drop (suc i) xs)
  others-behind n [] i rising at = tt
  others-behind n (x ∷ xs) zero rising at =
      all-implied (λ y. number x < number y) (λ y. eqb (number y) n ≡ false) (λ y less. (let is = at.there x in ne_eqb (number y) n (λ e. omega (arith, less, is, e)))) xs rising.0
  others-behind n (x ∷ xs) (suc i) rising at = others-behind n xs i rising.1 (at-tail n x xs i at)

  pub others-all : (n : ℕ) (xs : List X) → find (λ x. eqb (number x) n) xs ≡ None → AllByRecursion (λ x. eqb (number x) n ≡ false) xs
  others-all n [] none = tt
  others-all n (x ∷ xs) none =
      (elim (eqb (number x) n) as (λ b. eqb (number x) n ≡ b → cond b (Some x) (find (λ y. eqb (number y) n) xs) ≡ None → (eqb (number x) n ≡ false) × AllByRecursion (λ y. eqb (number y) n ≡ false) xs) [
        | true ↦ λ e some. absurd (cc)
        | false ↦ λ e rest. (e, others-all n xs rest)
      ]) refl none

  -- ---- removing at the place

  -- others stay
  pub filter-others : (n : ℕ) (test : X → Bool) (xs : List X) → AllByRecursion (λ x. eqb (number x) n ≡ false) xs → filter (λ x. not (eqb (number x) n && test x)) xs ≡ xs
  filter-others n test [] all = refl
  filter-others n test (x ∷ xs) all =
      ap (λ b. cond (not (b && test x)) (x ∷ filter (λ y. not (eqb (number y) n && test y)) xs) (filter (λ y. not (eqb (number y) n && test y)) xs)) all.0
      ∙ ap (λ ys. x ∷ ys) (filter-others n test xs all.1)

  pub removed-at : (n : ℕ) (test : X → Bool) (xs : List X) (i : ℕ) (d : X) → IsRising number xs → IsAt number n xs i → test (get_or xs i d) ≡ true → remove xs i ≡ filter (λ x. not (eqb (number x) n && test x)) xs
  removed-at n test [] i d rising at leaves = absurd (omega (arith, at.within))
  removed-at n test (x ∷ xs) zero d rising at leaves =
      (let stays : X → Bool = λ y. not (eqb (number y) n && test y) in
      sym (ap (λ b. cond (not (b && test x)) (x ∷ filter stays xs) (filter stays xs)) (eq-eqb (number x) n (at.there x))
      ∙ ap (λ b. cond (not b) (x ∷ filter stays xs) (filter stays xs)) leaves
      ∙ filter-others n test xs (others-behind n (x ∷ xs) zero rising at)))
  removed-at n test (x ∷ xs) (suc i) d rising at leaves =
      (let stays : X → Bool = λ y. not (eqb (number y) n && test y) in
      let less = below n x xs i rising at in
      ap (λ ys. x ∷ ys) (removed-at n test xs i d rising.1 (at-tail n x xs i at) leaves)
      ∙ sym (ap (λ b. cond (not (b && test x)) (x ∷ filter stays xs) (filter stays xs)) (ne_eqb (number x) n (λ e. omega (arith, less, e)))))

  pub stays-at : (n : ℕ) (test : X → Bool) (xs : List X) (i : ℕ) (d : X) → IsRising number xs → IsAt number n xs i → test (get_or xs i d) ≡ false → xs ≡ filter (λ x. not (eqb (number x) n && test x)) xs
  stays-at n test [] i d rising at stays = refl
  stays-at n test (x ∷ xs) zero d rising at stays =
      (let keeps : X → Bool = λ y. not (eqb (number y) n && test y) in
      sym (ap (λ b. cond (not (b && test x)) (x ∷ filter keeps xs) (filter keeps xs)) (eq-eqb (number x) n (at.there x))
      ∙ ap (λ b. cond (not b) (x ∷ filter keeps xs) (filter keeps xs)) stays
      ∙ ap (λ ys. x ∷ ys) (filter-others n test xs (others-behind n (x ∷ xs) zero rising at))))
  stays-at n test (x ∷ xs) (suc i) d rising at stays =
      (let keeps : X → Bool = λ y. not (eqb (number y) n && test y) in
      let less = below n x xs i rising at in
      ap (λ ys. x ∷ ys) (stays-at n test xs i d rising.1 (at-tail n x xs i at) stays)
      ∙ sym (ap (λ b. cond (not (b && test x)) (x ∷ filter keeps xs) (filter keeps xs)) (ne_eqb (number x) n (λ e. omega (arith, less, e)))))

  pub all-removed : (P : X → Type 0) (xs : List X) (i : ℕ) → AllByRecursion P xs → AllByRecursion P (remove xs i)
  all-removed P [] zero all = tt
  all-removed P [] (suc i) all = tt
  all-removed P (x ∷ xs) zero all = all.1
  all-removed P (x ∷ xs) (suc i) all = (all.0, all-removed P xs i all.1)

  -- ---- what is found among those that pass a test

  pub rising-filter : (test : X → Bool) (xs : List X) → IsRising number xs → IsRising number (filter test xs)
  rising-filter test [] rising = tt
  rising-filter test (x ∷ xs) rising =
      elim (test x) as (λ b. IsRising number (cond b (x ∷ filter test xs) (filter test xs))) [
        | true ↦ (all-filter (λ y. number x < number y) test xs rising.0, rising-filter test xs rising.1)
        | false ↦ rising-filter test xs rising.1
      ]

  pub found-passing : (n : ℕ) (test : X → Bool) (xs : List X) → IsRising number xs
      → is_some (find (λ x. eqb (number x) n) (filter test xs)) ≡ option_map_or test (find (λ x. eqb (number x) n) xs) false
  found-passing n test [] rising = refl
  found-passing n test (x ∷ xs) rising =
      (elim (eqb (number x) n) as (λ b. eqb (number x) n ≡ b → is_some (find (λ y. eqb (number y) n) (cond (test x) (x ∷ filter test xs) (filter test xs))) ≡ option_map_or test (cond b (Some x) (find (λ y. eqb (number y) n) xs)) false) [
        | true ↦ λ e.
            (let is = eqb-true (number x) n e in
            let above : AllByRecursion (λ y. n < number y) xs = all-implied (λ y. number x < number y) (λ y. n < number y) (λ y less. omega (arith, less, is)) xs rising.0 in
            (elim (test x) as (λ t. is_some (find (λ y. eqb (number y) n) (cond t (x ∷ filter test xs) (filter test xs))) ≡ t) [
              | true ↦ ap (λ b. is_some (cond b (Some x) (find (λ y. eqb (number y) n) (filter test xs)))) e
              | false ↦ found-passing n test xs rising.1 ∙ ap (λ (o : Option X). option_map_or test o false) (find-above n xs above)
            ]))
        | false ↦ λ e.
            (elim (test x) as (λ t. is_some (find (λ y. eqb (number y) n) (cond t (x ∷ filter test xs) (filter test xs))) ≡ option_map_or test (find (λ y. eqb (number y) n) xs) false) [
              | true ↦ ap (λ b. is_some (cond b (Some x) (find (λ y. eqb (number y) n) (filter test xs)))) e ∙ found-passing n test xs rising.1
              | false ↦ found-passing n test xs rising.1
            ])
      ]) refl
