-- A walk over the jobs between two numbers, where none is outside of them that is listed.
use Rattle.std.proofs.Common.{◌≡◌, ℕ, ◌+◌, ◌<◌, ◌≤◌, Bool, true, false, cond, leb, List, [], ◌∷◌, map, filter, Option, None, refl, sym, ◌∙◌, ap, subst, arith}
use Rattle.std.specs.List.{AllByRecursion}
use Rattle.std.proofs.lemmas.Bool.{leb-true, leb-false}
use Rattle.drmaa_types.specs.declared.identifiers.JobId.{JobId}
use Rattle.drmaa_model.specs.declared.courses.Course.{Course}
use Rattle.drmaa_model.specs.declared.rows.Row.{Row}
use Rattle.drmaa_model.specs.Fit.{number_of}
use Rattle.drmaa_model.specs.Plan.{Plan}
use Rattle.drmaa_model.specs.RowLaws.{all-filter, all-implied, all-passes}
use Rattle.drmaa_model.specs.Time.{rows_at, called_in, lapsed, let_go, come_to}
use Rattle.drmaa_model.specs.TimeLaws.{timed-only}
use Rattle.plan_book.specs.declared.spans.NumberRange.{NumberRange}
use Rattle.plan_book.specs.Numbers.{HasNumbersOf}
use Rattle.scheduler_core.specs.declared.facts.RowFacts.{RowFacts}
use Rattle.machine_readings.specs.Nexts.{AfterRowThrough, IsNextRow}
use Rattle.machine_readings.specs.Walks.{from_on}

-- ---- the range stays as time goes on, and serves a test that passes fewer

range-map : (test : Row → Bool) (f g : Row → Row) → ((row : Row) → f (g row) ≡ record row { course = (f (g row)).course }) → ((row : Row) (course : Course) → test (record row { course = course }) ≡ test row)
    → (range : NumberRange) (rows : List Row) → HasNumbersOf test rows range → HasNumbersOf test (map f (map g rows)) range
range-map test f g only same range [] has = tt
range-map test f g only same range (row ∷ rows) has = (
  (λ passes.
      (let here = has.0 in
      let was : test row ≡ true = sym (same row (f (g row)).course) ∙ ap test (sym (only row)) ∙ passes in
      subst (λ (r : Row). (range.first ≤ r.job.0) × (r.job.0 ≤ range.last)) (sym (only row)) (here was))),
  range-map test f g only same range rows has.1,
)

range-at : (test : Row → Bool) → ((row : Row) (course : Course) → test (record row { course = course }) ≡ test row) → (at : ℕ) (p : Plan) (range : NumberRange) → HasNumbersOf test p.rows range → HasNumbersOf test (rows_at at p) range
range-at test same at p range has =
    let q = let_go (come_to at p) in
    range-map test (called_in q.moment q.reservations) (lapsed q.moment q.reservations) (timed-only q.moment q.reservations) same range p.rows has

pub range-of : (test listed : Row → Bool) → ((row : Row) (course : Course) → test (record row { course = course }) ≡ test row) → ((row : Row) → listed row ≡ true → test row ≡ true)
    → (at : ℕ) (p : Plan) (range : NumberRange) → HasNumbersOf test p.rows range → HasNumbersOf listed (rows_at at p) range
range-of test listed same implies at p range has =
    all-implied (λ (row : Row). test row ≡ true → (range.first ≤ row.job.0) × (row.job.0 ≤ range.last)) (λ (row : Row). listed row ≡ true → (range.first ≤ row.job.0) × (row.job.0 ≤ range.last))
    (λ row within passes. within (implies row passes)) (rows_at at p) (range-at test same at p range has)

-- ---- none is left out before and behind it

module _ (listed : Row → Bool) (range : NumberRange) where
  misses : (row : Row) → (listed row ≡ true → ⊥) → listed row ≡ false
  misses row never =
      (elim (listed row) as (λ b. listed row ≡ b → b ≡ false) [
        | false ↦ λ is. refl
        | true ↦ λ is. absurd (never is)
      ]) refl

  pub range-front : (rows : List Row) → HasNumbersOf listed rows range → filter listed (from_on number_of range.first rows) ≡ filter listed rows
  range-front [] has = refl
  range-front (row ∷ rows) has =
      (elim (leb range.first row.job.0) as (λ b. leb range.first row.job.0 ≡ b → filter listed (cond b (row ∷ from_on number_of range.first rows) (from_on number_of range.first rows)) ≡ filter listed (row ∷ rows)) [
        | true ↦ λ e. ap (λ (ys : List Row). cond (listed row) (row ∷ ys) ys) (range-front rows has.1)
        | false ↦ λ e.
            (let here = has.0 in
            let low = leb-false range.first row.job.0 e in
            let none : listed row ≡ false = misses row (λ is. (let bounds = here is in omega (arith, bounds.0, low))) in
            range-front rows has.1 ∙ sym (ap (λ b. cond b (row ∷ filter listed rows) (filter listed rows)) none))
      ]) refl

  past-none : (rows : List Row) → HasNumbersOf listed rows range → AllByRecursion (λ (row : Row). range.last < row.job.0) rows → filter listed rows ≡ []
  past-none [] has past = refl
  past-none (row ∷ rows) has past =
      (let here = has.0 in
      let high = past.0 in
      let none : listed row ≡ false = misses row (λ is. (let bounds = here is in omega (arith, bounds.1, high))) in
      ap (λ b. cond b (row ∷ filter listed rows) (filter listed rows)) none ∙ past-none rows has.1 past.1)

  pub range-end : (from : ℕ) (rows : List Row) → HasNumbersOf listed rows range → AllByRecursion (λ (row : Row). range.last < row.job.0) (from_on number_of from rows) → filter listed (from_on number_of from rows) ≡ []
  range-end from rows has past =
      past-none (from_on number_of from rows)
      (all-filter (λ (row : Row). listed row ≡ true → (range.first ≤ row.job.0) × (row.job.0 ≤ range.last)) (λ (row : Row). leb from row.job.0) rows has) past

-- ---- the one that passes the last number

pub through-none : (rows : List Row) (from last : ℕ) → from_on number_of from rows ≡ [] → AllByRecursion (λ (row : Row). last < row.job.0) (from_on number_of from rows)
through-none rows from last none = subst (AllByRecursion (λ (row : Row). last < row.job.0)) (sym none) tt

pub through-end : (rows : List Row) (from last : ℕ) (o : Option RowFacts) → AfterRowThrough rows from last o → o ≡ None → AllByRecursion (λ (row : Row). last < row.job.0) (from_on number_of from rows)
through-end rows from last o after none = subst (AfterRowThrough rows from last) none after

pub through-past : (rows : List Row) (from last : ℕ) (facts : RowFacts) → IsNextRow rows from facts → last < facts.job.0 → AllByRecursion (λ (row : Row). last < row.job.0) (from_on number_of from rows)
through-past rows from last facts next past =
    let own : facts.job ≡ next.row.job = ap (λ (f : RowFacts). f.job) next.facts_are in
    let here : last < next.row.job.0 = subst (λ (j : JobId). last < j.0) own past in
    let rest : AllByRecursion (λ (row : Row). last < row.job.0) (from_on number_of (facts.job.0 + 1) rows) =
    all-implied (λ (row : Row). leb (facts.job.0 + 1) row.job.0 ≡ true) (λ (row : Row). last < row.job.0) (λ row on. (let high = leb-true (facts.job.0 + 1) row.job.0 on in omega (arith, high, past)))
    (from_on number_of (facts.job.0 + 1) rows) (all-passes (λ (row : Row). leb (facts.job.0 + 1) row.job.0) rows) in
    subst (AllByRecursion (λ (row : Row). last < row.job.0)) (sym next.split) (here, rest)
