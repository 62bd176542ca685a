-- Laws of rows: what a change of one job's row does to sums and to what holds of each row.
use Rattle.std.proofs.Common.{◌≡◌, ℕ, ◌+◌, ◌<◌, ◌≤◌, Bool, true, false, cond, eqb, List, [], ◌∷◌, ◌++◌, map, filter, sum_by, Some, refl, sym, ◌∙◌, ap, subst, arith, append-nil}
use Rattle.std.specs.List.{AllByRecursion, flat_map}
use Rattle.std.specs.Option.{option_map}
use Rattle.std.proofs.lemmas.Bool.{eqb-true, ne_eqb, eq-eqb}
use Rattle.std.proofs.lemmas.List.Sums.{sum_by-cons}
use Rattle.drmaa_types.specs.declared.identifiers.JobId.{JobId}
use Rattle.drmaa_types.specs.declared.states.JobState.{JobState}
use Rattle.drmaa_types.specs.States.{is_state, state_number}
use Rattle.drmaa_model.specs.declared.courses.Course.{Course}
use Rattle.drmaa_model.specs.declared.rows.Row.{Row}
use Rattle.drmaa_model.specs.Fit.{IsRising, AreNumbered, number_of}
use Rattle.drmaa_model.specs.Rows.{is_of, row_of, change_of, with_course}

-- of each element that passes a test

pub all-filter : {X : Type 0} (P : X → Type 0) (test : X → Bool) (xs : List X) → AllByRecursion P xs → AllByRecursion P (filter test xs)
all-filter P test [] h = h
all-filter P test (x ∷ xs) h =
    elim (test x) as (λ b. AllByRecursion P (cond b (x ∷ filter test xs) (filter test xs))) [
      | true ↦ (h.0, all-filter P test xs h.1)
      | false ↦ all-filter P test xs h.1
    ]

pub all-passes : {X : Type 0} (test : X → Bool) (xs : List X) → AllByRecursion (λ x. test x ≡ true) (filter test xs)
all-passes test [] = tt
all-passes test (x ∷ xs) =
    (elim (test x) as (λ b. test x ≡ b → AllByRecursion (λ y. test y ≡ true) (cond b (x ∷ filter test xs) (filter test xs))) [
      | true ↦ λ e. (e, all-passes test xs)
      | false ↦ λ e. all-passes test xs
    ]) refl

pub all-both : {X : Type 0} (P Q : X → Type 0) (xs : List X) → AllByRecursion P xs → AllByRecursion Q xs → AllByRecursion (λ x. P x × Q x) xs
all-both P Q [] p q = tt
all-both P Q (x ∷ xs) p q = ((p.0, q.0), all-both P Q xs p.1 q.1)

pub all-each : {X : Type 0} (P : X → Type 0) → ((x : X) → P x) → (xs : List X) → AllByRecursion P xs
all-each P each [] = tt
all-each P each (x ∷ xs) = (each x, all-each P each xs)

pub all-implied : {X : Type 0} (P Q : X → Type 0) → ((x : X) → P x → Q x) → (xs : List X) → AllByRecursion P xs → AllByRecursion Q xs
all-implied P Q implies [] p = tt
all-implied P Q implies (x ∷ xs) p = (implies x p.0, all-implied P Q implies xs p.1)

pub all-push : {X : Type 0} (P : X → Type 0) (xs : List X) (x : X) → AllByRecursion P xs → P x → AllByRecursion P (xs ++ x ∷ [])
all-push P [] x all here = (here, tt)
all-push P (y ∷ ys) x all here = (all.0, all-push P ys x all.1 here)

pub all-map : {X Y : Type 0} (P : Y → Type 0) (f : X → Y) (xs : List X) → AllByRecursion (λ x. P (f x)) xs → AllByRecursion P (map f xs)
all-map P f [] all = tt
all-map P f (x ∷ xs) all = (all.0, all-map P f xs all.1)

-- numbers

pub rising-push : {X : Type 0} (number : X → ℕ) (xs : List X) (x : X) → IsRising number xs → AllByRecursion (λ y. number y < number x) xs → IsRising number (xs ++ x ∷ [])
rising-push number [] x rising below = (tt, tt)
rising-push number (y ∷ ys) x rising below =
    (all-push (λ z. number y < number z) ys x rising.0 below.0, rising-push number ys x rising.1 below.1)

-- the next number is given to one more
pub numbered-push : {X : Type 0} (number : X → ℕ) (next : ℕ) (xs : List X) (x : X) → AreNumbered number next xs → number x ≡ next → AreNumbered number (next + 1) (xs ++ x ∷ [])
numbered-push number next xs x numbered is = record {
  rising = rising-push number xs x numbered.rising
      (all-implied (λ y. number y < next) (λ y. number y < number x) (λ y below. subst (λ n. number y < n) (sym is) below) xs numbered.below);
  below = all-push (λ y. number y < next + 1) xs x
      (all-implied (λ y. number y < next) (λ y. number y < next + 1) (λ y below. omega arith) xs numbered.below)
      (omega arith);
}

module _ {X : Type 0} (number : X → ℕ) (f : X → X) (same : (x : X) → number (f x) ≡ number x) where
  above-map : (n : ℕ) (xs : List X) → AllByRecursion (λ y. n < number y) xs → AllByRecursion (λ y. n < number y) (map f xs)
  above-map n [] all = tt
  above-map n (x ∷ xs) all = (subst (λ m. n < m) (sym (same x)) all.0, above-map n xs all.1)

  below-map : (n : ℕ) (xs : List X) → AllByRecursion (λ y. number y < n) xs → AllByRecursion (λ y. number y < n) (map f xs)
  below-map n [] all = tt
  below-map n (x ∷ xs) all = (subst (λ m. m < n) (sym (same x)) all.0, below-map n xs all.1)

  rising-map : (xs : List X) → IsRising number xs → IsRising number (map f xs)
  rising-map [] rising = tt
  rising-map (x ∷ xs) rising =
      (subst (λ m. AllByRecursion (λ y. m < number y) (map f xs)) (sym (same x)) (above-map (number x) xs rising.0), rising-map xs rising.1)

  pub numbered-map : (next : ℕ) (xs : List X) → AreNumbered number next xs → AreNumbered number next (map f xs)
  numbered-map next xs numbered = record { rising = rising-map xs numbered.rising; below = below-map next xs numbered.below }

-- a job's row

-- the row that is found has the number that is looked for
pub row_of-is : (job : JobId) (rows : List Row) (row : Row) → row_of job rows ≡ Some row → row.job.0 ≡ job.0
row_of-is job [] row found = absurd (cc)
row_of-is job (r ∷ rows) row found =
    (elim (is_of job r) as (λ b. is_of job r ≡ b → cond b (Some r) (row_of job rows) ≡ Some row → row.job.0 ≡ job.0) [
      | true ↦ λ is same. (let e : r ≡ row = cc in subst (λ (x : Row). x.job.0 ≡ job.0) e (eqb-true r.job.0 job.0 is))
      | false ↦ λ is same. row_of-is job rows row same
    ]) refl found

-- what holds of each row holds of the one that is found
pub row_of-all : (P : Row → Type 0) (job : JobId) (rows : List Row) (row : Row) → AllByRecursion P rows → row_of job rows ≡ Some row → P row
row_of-all P job [] row all found = absurd (cc)
row_of-all P job (r ∷ rows) row all found =
    (elim (is_of job r) as (λ b. cond b (Some r) (row_of job rows) ≡ Some row → P row) [
      | true ↦ λ same. (let e : r ≡ row = cc in subst P e all.0)
      | false ↦ λ same. row_of-all P job rows row all.1 same
    ]) found

pub is_state-same : (s : JobState) → is_state s s ≡ true
is_state-same s = eq-eqb (state_number s) (state_number s) refl

-- a row that stays in its state has no change
pub change_of-same : (entry : ℕ) (row : Row) → change_of entry row row ≡ []
change_of-same entry row = ap (λ b. cond b [] (record { entry = entry; job = row.job; home = row.home; from = row.course.state; to = row.course.state } ∷ [])) (is_state-same row.course.state)

module _ (job : JobId) (course : Course) where
  with_course-same : (row : Row) → is_of job row ≡ true → with_course job course row ≡ record row { course = course }
  with_course-same row is = ap (λ b. cond b (record row { course = course }) row) is

  with_course-other : (row : Row) → is_of job row ≡ false → with_course job course row ≡ row
  with_course-other row is = ap (λ b. cond b (record row { course = course }) row) is

  pub with_course-number : (row : Row) → number_of (with_course job course row) ≡ number_of row
  with_course-number row =
      elim (is_of job row) as (λ b. number_of (cond b (record row { course = course }) row) ≡ number_of row) [ true ↦ refl | false ↦ refl ]

  -- rows of greater numbers stay as they are
  with_course-above : (rows : List Row) → AllByRecursion (λ r. job.0 < number_of r) rows → map (with_course job course) rows ≡ rows
  with_course-above [] above = refl
  with_course-above (row ∷ rows) above =
      let other : with_course job course row ≡ row = with_course-other row (ne_eqb row.job.0 job.0 (λ e. omega (arith, above.0))) in
      let rest : map (with_course job course) rows ≡ rows = with_course-above rows above.1 in
      cc

  sum_with_course-above : (f : Row → ℕ) (rows : List Row) → AllByRecursion (λ r. job.0 < number_of r) rows → sum_by f (map (with_course job course) rows) ≡ sum_by f rows
  sum_with_course-above f rows above = ap (sum_by f) (with_course-above rows above)

  changes-above : (entry : ℕ) (rows : List Row) → AllByRecursion (λ r. job.0 < number_of r) rows → flat_map (λ r. change_of entry r (with_course job course r)) rows ≡ []
  changes-above entry [] above = refl
  changes-above entry (row ∷ rows) above =
      let other : with_course job course row ≡ row = with_course-other row (ne_eqb row.job.0 job.0 (λ e. omega (arith, above.0))) in
      let here : change_of entry row (with_course job course row) ≡ [] = ap (change_of entry row) other ∙ change_of-same entry row in
      let rest : flat_map (λ r. change_of entry r (with_course job course r)) rows ≡ [] = changes-above entry rows above.1 in
      ap (λ xs. xs ++ flat_map (λ r. change_of entry r (with_course job course r)) rows) here ∙ rest

  -- the sum over all rows changes by what it changes at the row
  pub sum_with_course : (f : Row → ℕ) (rows : List Row) (row : Row) → IsRising number_of rows → row_of job rows ≡ Some row →
      sum_by f (map (with_course job course) rows) + f row ≡ sum_by f rows + f (record row { course = course })
  sum_with_course f [] row rising found = absurd (cc)
  sum_with_course f (r ∷ rows) row rising found =
      let cons = sum_by-cons f r rows in
      let cons' = sum_by-cons f (with_course job course r) (map (with_course job course) rows) in
      (elim (is_of job r) as (λ b. is_of job r ≡ b → cond b (Some r) (row_of job rows) ≡ Some row →
      sum_by f (map (with_course job course) (r ∷ rows)) + f row ≡ sum_by f (r ∷ rows) + f (record row { course = course })) [
        | true ↦ λ is same.
            (let e : r ≡ row = cc in
            let here : f (with_course job course r) ≡ f (record row { course = course }) = ap f (with_course-same r is) ∙ ap (λ (x : Row). f (record x { course = course })) e in
            let rest : sum_by f (map (with_course job course) rows) ≡ sum_by f rows =
            sum_with_course-above f rows (subst (λ n. AllByRecursion (λ s. n < number_of s) rows) (eqb-true r.job.0 job.0 is) rising.0) in
            let f_same : f r ≡ f row = ap f e in
            omega (arith, cons, cons', here, rest, f_same))
        | false ↦ λ is same.
            (let here : f (with_course job course r) ≡ f r = ap f (with_course-other r is) in
            let rest : sum_by f (map (with_course job course) rows) + f row ≡ sum_by f rows + f (record row { course = course }) = sum_with_course f rows row rising.1 same in
            omega (arith, cons, cons', here, rest))
      ]) refl found

  -- what holds of each row, and of the row as it goes on, holds of each row then
  pub all_with_course : (P : Row → Type 0) (rows : List Row) (row : Row) → IsRising number_of rows → row_of job rows ≡ Some row →
      AllByRecursion P rows → P (record row { course = course }) → AllByRecursion P (map (with_course job course) rows)
  all_with_course P [] row rising found all here = tt
  all_with_course P (r ∷ rows) row rising found all here =
      (elim (is_of job r) as (λ b. is_of job r ≡ b → cond b (Some r) (row_of job rows) ≡ Some row → AllByRecursion P (map (with_course job course) (r ∷ rows))) [
        | true ↦ λ is same.
            (let e : r ≡ row = cc in
            let here' : record row { course = course } ≡ with_course job course r = sym (with_course-same r is ∙ ap (λ (x : Row). record x { course = course }) e) in
            let rest : rows ≡ map (with_course job course) rows =
            sym (with_course-above rows (subst (λ n. AllByRecursion (λ s. n < number_of s) rows) (eqb-true r.job.0 job.0 is) rising.0)) in
            (subst P here' here, subst (AllByRecursion P) rest all.1))
        | false ↦ λ is same.
            (subst P (sym (with_course-other r is)) all.0, all_with_course P rows row rising.1 same all.1 here)
      ]) refl found

  -- one row goes on: its change is the only one
  pub changes_with_course : (entry : ℕ) (rows : List Row) (row : Row) → IsRising number_of rows → row_of job rows ≡ Some row →
      flat_map (λ r. change_of entry r (with_course job course r)) rows ≡ change_of entry row (record row { course = course })
  changes_with_course entry [] row rising found = absurd (cc)
  changes_with_course entry (r ∷ rows) row rising found =
      (elim (is_of job r) as (λ b. is_of job r ≡ b → cond b (Some r) (row_of job rows) ≡ Some row →
      flat_map (λ s. change_of entry s (with_course job course s)) (r ∷ rows) ≡ change_of entry row (record row { course = course })) [
        | true ↦ λ is same.
            (let e : r ≡ row = cc in
            let here : change_of entry r (with_course job course r) ≡ change_of entry row (record row { course = course }) =
            ap (change_of entry r) (with_course-same r is) ∙ ap (λ (x : Row). change_of entry x (record x { course = course })) e in
            let rest : flat_map (λ s. change_of entry s (with_course job course s)) rows ≡ [] =
            changes-above entry rows (subst (λ n. AllByRecursion (λ s. n < number_of s) rows) (eqb-true r.job.0 job.0 is) rising.0) in
            ap (λ xs. change_of entry r (with_course job course r) ++ xs) rest ∙ append-nil (change_of entry r (with_course job course r)) ∙ here)
        | false ↦ λ is same.
            (let here : change_of entry r (with_course job course r) ≡ [] = ap (change_of entry r) (with_course-other r is) ∙ change_of-same entry r in
            ap (λ xs. xs ++ flat_map (λ s. change_of entry s (with_course job course s)) rows) here ∙ changes_with_course entry rows row rising.1 same)
      ]) refl found

-- a row that has a number is found by it
pub rising-found : (rows : List Row) → IsRising number_of rows → AllByRecursion (λ r. row_of r.job rows ≡ Some r) rows
rising-found [] rising = tt
rising-found (row ∷ rows) rising = (
  ap (λ b. cond b (Some row) (row_of row.job rows)) (eq-eqb row.job.0 row.job.0 refl),
  all-implied (λ r. (row.job.0 < r.job.0) × (row_of r.job rows ≡ Some r)) (λ r. row_of r.job (row ∷ rows) ≡ Some r)
      (λ r both. ap (λ b. cond b (Some row) (row_of r.job rows)) (ne_eqb row.job.0 r.job.0 (λ e. omega (arith, both.0))) ∙ both.1) rows
      (all-both (λ r. row.job.0 < r.job.0) (λ r. row_of r.job rows ≡ Some r) rows rising.0 (rising-found rows rising.1)),
)

-- rows that keep their numbers are found where they were
pub row_of-map : (f : Row → Row) → ((row : Row) → (f row).job ≡ row.job) → (job : JobId) (rows : List Row) → row_of job (map f rows) ≡ option_map f (row_of job rows)
row_of-map f same job [] = refl
row_of-map f same job (r ∷ rows) =
    let here : is_of job (f r) ≡ is_of job r = ap (λ (j : JobId). eqb j.0 job.0) (same r) in
    ap (λ b. cond b (Some (f r)) (row_of job (map f rows))) here
    ∙ (elim (is_of job r) as (λ b. cond b (Some (f r)) (row_of job (map f rows)) ≡ option_map f (cond b (Some r) (row_of job rows))) [
      | true ↦ refl
      | false ↦ row_of-map f same job rows
    ])

-- a sum has the part of the row that is found
pub sum-found : (f : Row → ℕ) (job : JobId) (rows : List Row) (row : Row) → row_of job rows ≡ Some row → f row ≤ sum_by f rows
sum-found f job [] row found = absurd (cc)
sum-found f job (r ∷ rows) row found =
    let cons = sum_by-cons f r rows in
    (elim (is_of job r) as (λ b. cond b (Some r) (row_of job rows) ≡ Some row → f row ≤ sum_by f (r ∷ rows)) [
      | true ↦ λ same. (let e : r ≡ row = cc in let here : f r ≡ f row = ap f e in omega (arith, cons, here))
      | false ↦ λ same. (let rest = sum-found f job rows row same in omega (arith, cons, rest))
    ]) found
