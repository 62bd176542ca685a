-- A loop over a list that looks for the first element that meets a test.
use Rattle.std.proofs.Common.{◌≡◌, ℕ, suc, ◌+◌, ◌<◌, ◌≤◌, Bool, true, false, cond, ◌||◌, List, [], ◌∷◌, length, drop, find, get_or, Some, None, refl, ◌∙◌, ap, arith, drop-cons}
use Rattle.std.proofs.lemmas.List.{drop_all}
use Rattle.std.specs.Prelude.{is_some}
use Rattle.std.specs.List.{list_any}

pub any-found : {X : Type 0} (test : X → Bool) (xs : List X) → list_any test xs ≡ is_some (find test xs)
any-found test [] = refl
any-found test (x ∷ xs) =
    ap (λ b. test x || b) (any-found test xs)
    ∙ elim (test x) as (λ b. (b || is_some (find test xs)) ≡ is_some (cond b (Some x) (find test xs))) [ true ↦ refl | false ↦ refl ]

front : {X : Type 0} (xs : List X) (i : ℕ) (d : X) → i < length xs → drop i xs ≡ get_or xs i d ∷ drop (i + 1) xs
front xs i d within =
    let e : suc i ≡ i + 1 = omega arith in
    drop-cons xs i d within ∙ ap (λ n. get_or xs i d ∷ drop n xs) e

-- the element at this place fails the test
pub find-next : {X : Type 0} (test : X → Bool) (xs : List X) (i : ℕ) (d : X) → i < length xs → test (get_or xs i d) ≡ false → find test (drop i xs) ≡ find test (drop (i + 1) xs)
find-next test xs i d within fails =
    ap (find test) (front xs i d within) ∙ ap (λ b. cond b (Some (get_or xs i d)) (find test (drop (i + 1) xs))) fails

-- it meets it
pub find-here : {X : Type 0} (test : X → Bool) (xs : List X) (i : ℕ) (d : X) → i < length xs → test (get_or xs i d) ≡ true → find test (drop i xs) ≡ Some (get_or xs i d)
find-here test xs i d within meets =
    ap (find test) (front xs i d within) ∙ ap (λ b. cond b (Some (get_or xs i d)) (find test (drop (i + 1) xs))) meets

pub find-over : {X : Type 0} (test : X → Bool) (xs : List X) (i : ℕ) → length xs ≤ i → find test (drop i xs) ≡ None
find-over test xs i over = ap (find test) (drop_all i xs over)

pub any-next : {X : Type 0} (test : X → Bool) (xs : List X) (i : ℕ) (d : X) → i < length xs → test (get_or xs i d) ≡ false → list_any test (drop i xs) ≡ list_any test (drop (i + 1) xs)
any-next test xs i d within fails =
    ap (list_any test) (front xs i d within) ∙ ap (λ b. b || list_any test (drop (i + 1) xs)) fails

pub any-here : {X : Type 0} (test : X → Bool) (xs : List X) (i : ℕ) (d : X) → i < length xs → test (get_or xs i d) ≡ true → list_any test (drop i xs) ≡ true
any-here test xs i d within meets =
    ap (list_any test) (front xs i d within) ∙ ap (λ b. b || list_any test (drop (i + 1) xs)) meets

pub any-over : {X : Type 0} (test : X → Bool) (xs : List X) (i : ℕ) → length xs ≤ i → list_any test (drop i xs) ≡ false
any-over test xs i over = ap (list_any test) (drop_all i xs over)
