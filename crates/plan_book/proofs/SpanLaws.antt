-- Spans of arrays and of homes as jobs come in and leave, and the jobs outside of them.
use Rattle.std.proofs.Common.{◌≡◌, ℕ, ◌<◌, ◌≤◌, Bool, true, false, cond, eqb, List, ◌∷◌, ◌++◌, map, filter, take, drop, get_or, set, Option, Some, None, refl, sym, ◌∙◌, ap, subst, arith}
use Rattle.std.specs.Prelude.{IfSome}
use Rattle.std.specs.List.{AllByRecursion, remove}
use Rattle.std.specs.Option.{option_map, option_map_or}
use Rattle.std.proofs.lemmas.Bool.{eqb-true, eq-eqb}
use Rattle.drmaa_types.specs.declared.identifiers.ArrayId.{ArrayId}
use Rattle.drmaa_types.specs.declared.identifiers.JobId.{JobId}
use Rattle.drmaa_types.specs.declared.states.Control.{Control}
use Rattle.drmaa_model.specs.declared.calls.Target.{Target}
use Rattle.drmaa_model.specs.declared.courses.Course.{Course}
use Rattle.drmaa_model.specs.declared.reservations.Accepted.{Accepted}
use Rattle.drmaa_model.specs.declared.rows.Row.{Row}
use Rattle.drmaa_model.specs.declared.rows.Wants.{Wants}
use Rattle.drmaa_model.specs.Controlling.{control_step}
use Rattle.drmaa_model.specs.ControlLaws.{control-cases, control-job, control-wants}
use Rattle.drmaa_model.specs.Effects.{left_by}
use Rattle.drmaa_model.specs.Fit.{IsRising, number_of}
use Rattle.drmaa_model.specs.FitLaws.{with_course-wants}
use Rattle.drmaa_model.specs.Homes.{is_same_home}
use Rattle.drmaa_model.specs.Load.{is_member}
use Rattle.drmaa_model.specs.RowLaws.{all-each, all-filter, all-implied, all-map}
use Rattle.drmaa_model.specs.Rows.{is_of, with_course}
use Rattle.drmaa_model.specs.TimeLaws.{timed, timed-only, timed-wants}
use Rattle.plan_book.specs.declared.spans.NumberRange.{NumberRange}
use Rattle.plan_book.specs.declared.spans.Span.{Span}
use Rattle.plan_book.specs.declared.spans.Spans.{Spans}
use Rattle.plan_book.specs.Numbers.{HasNumbersOf}
use Rattle.plan_book.specs.Places.{IsAt}
use Rattle.plan_book.specs.Spans.{AreBothSorted, AreSpanned, IsInSpan, IsSpanned, IsWithin, Keeps, span_number, span_of, widened}
use Rattle.plan_book.proofs.Searched.{all-removed, find-at, find-beside, find-inserted, find-mapped, rising-inserted, rising-mapped, set-at}
use Rattle.plan_book.proofs.SumLaws.{all-append}

-- ---- a new span, where there is memory for it

module _ (group job : ℕ) (spans : List Span) (i : ℕ) (span : Span) (is : span ≡ record { group = group; first = job; last = job }) (none : span_of group spans ≡ None) where
  own : span.group ≡ group
  own = ap (λ (s : Span). s.group) is

  pub insert-order : IsRising span_number spans → AllByRecursion (λ (s : Span). s.group < group) (take i spans) → AllByRecursion (λ (s : Span). group < s.group) (drop i spans)
      → (stands : Bool) → IsRising span_number (cond stands (take i spans ++ span ∷ drop i spans) spans)
  insert-order rising below above true =
      rising-inserted span_number spans i span rising (subst (λ (n : ℕ). AllByRecursion (λ (s : Span). s.group < n) (take i spans)) (sym own) below) (subst (λ (n : ℕ). AllByRecursion (λ (s : Span). n < s.group) (drop i spans)) (sym own) above)
  insert-order rising below above false = rising

  pub insert-keeps : (other number : ℕ) → IsInSpan other number spans → (stands : Bool) → IsInSpan other number (cond stands (take i spans ++ span ∷ drop i spans) spans)
  insert-keeps other number there false = there
  insert-keeps other number there true =
      (elim (eqb span.group other) as (λ b. eqb span.group other ≡ b → IsInSpan other number (take i spans ++ span ∷ drop i spans)) [
        | false ↦ λ e. record { span = there.span; found = find-beside span_number other spans i span e ∙ there.found; since = there.since; until = there.until }
        | true ↦ λ e.
            (let same : group ≡ other = sym own ∙ eqb-true span.group other e in
            let gone : span_of other spans ≡ None = subst (λ (n : ℕ). span_of n spans ≡ None) same none in
            let found = there.found in
            absurd (cc))
      ]) refl

  pub insert-has : (stands : Bool) → stands ≡ true → IsInSpan group job (cond stands (take i spans ++ span ∷ drop i spans) spans)
  insert-has false e = absurd (cc)
  insert-has true e = record {
    span = span;
    found = find-inserted span_number group spans i span (eq-eqb span.group group own) none;
    since = omega (arith, ap (λ (s : Span). s.first) is);
    until = omega (arith, ap (λ (s : Span). s.last) is);
  }

-- ---- one more number in the span of a group

abbrev pub widened_at : ℕ → ℕ → Span → Span
widened_at group job span = cond (eqb span.group group) (widened job span) span

widened-group : (group job : ℕ) (span : Span) → (widened_at group job span).group ≡ span.group
widened-group group job span = elim (eqb span.group group) as (λ b. (let s : Span = cond b (widened job span) span in s).group ≡ span.group) [ true ↦ refl | false ↦ refl ]

widened-since : (group job number : ℕ) (span : Span) → span.first ≤ number → (widened_at group job span).first ≤ number
widened-since group job number span since =
    elim (eqb span.group group) as (λ b. (let s : Span = cond b (widened job span) span in s).first ≤ number) [ true ↦ omega (arith, since) | false ↦ since ]

widened-until : (group job number : ℕ) (span : Span) → number ≤ span.last → number ≤ (widened_at group job span).last
widened-until group job number span until =
    elim (eqb span.group group) as (λ b. number ≤ (let s : Span = cond b (widened job span) span in s).last) [ true ↦ omega (arith, until) | false ↦ until ]

module _ (group job : ℕ) (spans : List Span) (i : ℕ) (span : Span) (rising : IsRising span_number spans) (at : IsAt span_number group spans i) (is : span ≡ get_or spans i span) where
  widen-list : set spans i (widened job span) ≡ map (widened_at group job) spans
  widen-list = ap (λ (s : Span). set spans i (widened job s)) is ∙ set-at span_number group (widened job) spans i span rising at

  pub widen-rising : IsRising span_number (set spans i (widened job span))
  widen-rising = subst (IsRising span_number) (sym widen-list) (rising-mapped span_number (widened_at group job) (widened-group group job) spans rising)

  pub widen-keeps : (other number : ℕ) → IsInSpan other number spans → IsInSpan other number (set spans i (widened job span))
  widen-keeps other number there = subst (IsInSpan other number) (sym widen-list) (record {
    span = widened_at group job there.span;
    found = find-mapped span_number (widened_at group job) (widened-group group job) other spans ∙ ap (option_map (widened_at group job)) there.found;
    since = widened-since group job number there.span there.since;
    until = widened-until group job number there.span there.until;
  })

  pub widen-has : IsInSpan group job (set spans i (widened job span))
  widen-has =
      let own : eqb span.group group ≡ true = eq-eqb span.group group (ap (λ (s : Span). s.group) is ∙ at.there span) in
      let wide : widened_at group job span ≡ widened job span = ap (λ b. cond b (widened job span) span) own in
      let there : span_of group spans ≡ Some span = find-at span_number group spans i span rising at ∙ ap (λ (s : Span). Some s) (sym is) in
      subst (IsInSpan group job) (sym widen-list) (record {
        span = widened job span;
        found = find-mapped span_number (widened_at group job) (widened-group group job) group spans ∙ ap (option_map (widened_at group job)) there ∙ ap (λ (s : Span). Some s) wide;
        since = omega arith;
        until = omega arith;
      })

  -- ---- what is found

  pub at-numbers : (number : ℕ) → IsInSpan group number spans → (span.first ≤ number) × (number ≤ span.last)
  at-numbers number there =
      let here : span_of group spans ≡ Some span = find-at span_number group spans i span rising at ∙ ap (λ (s : Span). Some s) (sym is) in
      let found = there.found in
      let same : there.span ≡ span = cc in
      (subst (λ (s : Span). s.first ≤ number) same there.since, subst (λ (s : Span). number ≤ s.last) same there.until)

pub none-numbers : (group number first last : ℕ) (spans : List Span) → span_of group spans ≡ None → IsInSpan group number spans → (first ≤ number) × (number ≤ last)
none-numbers group number first last spans none there = (let found = there.found in absurd (cc))

-- ---- jobs come in, go on and leave

-- a job that is in its spans stays in them
pub spanned-then : (old new : Spans) → Keeps old.arrays new.arrays → Keeps old.homes new.homes → (row : Row) → IsSpanned old row → IsSpanned new row
spanned-then old new arrays homes row spanned = record {
  array = λ array is. arrays array.0 row.job.0 (spanned.array array is);
  home = λ home is. homes home row.job.0 (spanned.home home is);
}

pub spanned-append : (rows more : List Row) (old new : Spans) → AreSpanned rows old → AreBothSorted new → Keeps old.arrays new.arrays → Keeps old.homes new.homes → AllByRecursion (IsSpanned new) more → AreSpanned (rows ++ more) new
spanned-append rows more old new are sorted arrays homes all = record {
  sorted = sorted;
  members = all-append (IsSpanned new) rows more (all-implied (IsSpanned old) (IsSpanned new) (spanned-then old new arrays homes) rows are.members) all;
}

-- jobs keep their numbers and arrays, and come to no other home
pub spanned-map : (f : Row → Row) → ((row : Row) → (f row).job ≡ row.job) → ((row : Row) → (f row).wants ≡ row.wants) → ((row : Row) (home : ℕ) → (f row).home ≡ Some home → row.home ≡ Some home)
    → (rows : List Row) (spans : Spans) → AreSpanned rows spans → AreSpanned (map f rows) spans
spanned-map f job wants homes rows spans are = record {
  sorted = are.sorted;
  members = all-map (IsSpanned spans) f rows (all-implied (IsSpanned spans) (λ (row : Row). IsSpanned spans (f row))
      (λ row spanned. record {
        array = λ array is. subst (λ (j : JobId). IsWithin array.0 j.0 spans.arrays) (sym (job row)) (spanned.array array (sym (ap (λ (w : Wants). w.array) (wants row)) ∙ is));
        home = λ home is. subst (λ (j : JobId). IsWithin home j.0 spans.homes) (sym (job row)) (spanned.home home (homes row home is));
      }) rows are.members);
}

pub with-job : (job : JobId) (course : Course) (row : Row) → (with_course job course row).job ≡ row.job
with-job job course row = elim (is_of job row) as (λ b. (let r : Row = cond b (record row { course = course }) row in r).job ≡ row.job) [ true ↦ refl | false ↦ refl ]

with-home : (job : JobId) (course : Course) (row : Row) → (with_course job course row).home ≡ row.home
with-home job course row = elim (is_of job row) as (λ b. (let r : Row = cond b (record row { course = course }) row in r).home ≡ row.home) [ true ↦ refl | false ↦ refl ]

pub spanned-course : (job : JobId) (course : Course) (rows : List Row) (spans : Spans) → AreSpanned rows spans → AreSpanned (map (with_course job course) rows) spans
spanned-course job course rows spans are =
    spanned-map (with_course job course) (with-job job course) (with_course-wants job course) (λ row home is. sym (with-home job course row) ∙ is) rows spans are

pub spanned-step : (moment : ℕ) (t : Target) (what : Control) (rows : List Row) (spans : Spans) → AreSpanned rows spans → AreSpanned (map (control_step moment t what) rows) spans
spanned-step moment t what rows spans are =
    (let home : (row : Row) → (control_step moment t what row).home ≡ row.home = λ row. control-cases (λ (p q : Row). q.home ≡ p.home) moment t what row refl (λ state e. refl) in
    spanned-map (control_step moment t what) (control-job moment t what) (control-wants moment t what) (λ row own is. sym (home row) ∙ is) rows spans are)

pub spanned-timed : (moment : ℕ) (rs : List Accepted) (rows : List Row) (spans : Spans) → AreSpanned rows spans → AreSpanned (map (timed moment rs) rows) spans
spanned-timed moment rs rows spans are =
    spanned-map (timed moment rs) (λ row. ap (λ (x : Row). x.job) (timed-only moment rs row)) (timed-wants moment rs) (λ row own is. sym (ap (λ (x : Row). x.home) (timed-only moment rs row)) ∙ is) rows spans are

left-home : (gone home : ℕ) (own : Option ℕ) → left_by gone own ≡ Some home → own ≡ Some home
left-home gone home own is =
    (elim (is_same_home (Some gone) own) as (λ b. cond b None own ≡ Some home → own ≡ Some home) [
      | true ↦ λ e. absurd (cc)
      | false ↦ λ e. e
    ]) is

pub spanned-left : (gone : ℕ) (rows : List Row) (spans : Spans) → AreSpanned rows spans → AreSpanned (map (λ (row : Row). record row { home = left_by gone row.home }) rows) spans
spanned-left gone rows spans are =
    spanned-map (λ (row : Row). record row { home = left_by gone row.home }) (λ row. refl) (λ row. refl) (λ row home is. left-home gone home row.home is) rows spans are

pub spanned-filter : (test : Row → Bool) (rows : List Row) (spans : Spans) → AreSpanned rows spans → AreSpanned (filter test rows) spans
spanned-filter test rows spans are = record { sorted = are.sorted; members = all-filter (IsSpanned spans) test rows are.members }

pub spanned-removed : (rows : List Row) (place : ℕ) (spans : Spans) → AreSpanned rows spans → AreSpanned (remove rows place) spans
spanned-removed rows place spans are = record { sorted = are.sorted; members = all-removed number_of (IsSpanned spans) rows place are.members }

-- ---- no member stands outside

pub none-at : (array : ArrayId) (spans : Spans) (row : Row) → (IsWithin array.0 row.job.0 spans.arrays → ⊥) → IsSpanned spans row → is_member array row ≡ false
none-at array spans row outside spanned =
    (elim row.wants.array as (λ (o : Option ArrayId). row.wants.array ≡ o → option_map_or (λ (a : ArrayId). eqb a.0 array.0) o false ≡ false) [
      | None ↦ λ e. refl
      | Some own ↦ λ e.
          ((elim (eqb own.0 array.0) as (λ b. eqb own.0 array.0 ≡ b → b ≡ false) [
            | false ↦ λ is. refl
            | true ↦ λ is. absurd (outside (subst (λ (n : ℕ). IsWithin n row.job.0 spans.arrays) (eqb-true own.0 array.0 is) (spanned.array own e)))
          ]) refl)
    ]) refl

-- ---- between which numbers they stand

member-within : (array : ArrayId) (spans : Spans) (row : Row) → IsSpanned spans row → is_member array row ≡ true → IsWithin array.0 row.job.0 spans.arrays
member-within array spans row spanned member =
    (elim row.wants.array as (λ (o : Option ArrayId). row.wants.array ≡ o → option_map_or (λ (a : ArrayId). eqb a.0 array.0) o false ≡ true → IsWithin array.0 row.job.0 spans.arrays) [
      | None ↦ λ e is. absurd (cc)
      | Some own ↦ λ e is. subst (λ (n : ℕ). IsWithin n row.job.0 spans.arrays) (eqb-true own.0 array.0 is) (spanned.array own e)
    ]) refl member

home-within : (home : ℕ) (spans : Spans) (row : Row) → IsSpanned spans row → is_same_home (Some home) row.home ≡ true → IsWithin home row.job.0 spans.homes
home-within home spans row spanned same =
    (elim row.home as (λ (o : Option ℕ). row.home ≡ o → is_same_home (Some home) o ≡ true → IsWithin home row.job.0 spans.homes) [
      | None ↦ λ e is. absurd (cc)
      | Some own ↦ λ e is. subst (λ (n : ℕ). IsWithin n row.job.0 spans.homes) (sym (eqb-true home own is)) (spanned.home own e)
    ]) refl same

pub numbers-of_array : (array : ArrayId) (spans : Spans) (o : Option NumberRange) → IfSome o (λ (range : NumberRange). (job : ℕ) → IsWithin array.0 job spans.arrays → (range.first ≤ job) × (job ≤ range.last))
    → (rows : List Row) → AllByRecursion (IsSpanned spans) rows → IfSome o (HasNumbersOf (is_member array) rows)
numbers-of_array array spans None inside rows all = tt
numbers-of_array array spans (Some range) inside rows all =
    all-implied (IsSpanned spans) (λ (row : Row). is_member array row ≡ true → (range.first ≤ row.job.0) × (row.job.0 ≤ range.last))
    (λ row spanned member. inside row.job.0 (member-within array spans row spanned member)) rows all

pub numbers-of_home : (home : ℕ) (spans : Spans) (o : Option NumberRange) → IfSome o (λ (range : NumberRange). (job : ℕ) → IsWithin home job spans.homes → (range.first ≤ job) × (job ≤ range.last))
    → (rows : List Row) → AllByRecursion (IsSpanned spans) rows → IfSome o (HasNumbersOf (λ (row : Row). is_same_home (Some home) row.home) rows)
numbers-of_home home spans None inside rows all = tt
numbers-of_home home spans (Some range) inside rows all =
    all-implied (IsSpanned spans) (λ (row : Row). is_same_home (Some home) row.home ≡ true → (range.first ≤ row.job.0) × (row.job.0 ≤ range.last))
    (λ row spanned same. inside row.job.0 (home-within home spans row spanned same)) rows all

-- all jobs have numbers below the next one
pub numbers-of_all : (next : ℕ) (rows : List Row) → AllByRecursion (λ (row : Row). row.job.0 < next) rows → (test : Row → Bool) → HasNumbersOf test rows (record { first = 0; last = next })
numbers-of_all next rows below test =
    all-implied (λ (row : Row). row.job.0 < next) (λ (row : Row). test row ≡ true → (0 ≤ row.job.0) × (row.job.0 ≤ next)) (λ row low passes. (omega arith, omega (arith, low))) rows below

-- no job belongs to no home
pub numbers-of_none : (rows : List Row) (range : NumberRange) → HasNumbersOf (λ (row : Row). is_same_home None row.home) rows range
numbers-of_none rows range =
    all-each (λ (row : Row). is_same_home None row.home ≡ true → (range.first ≤ row.job.0) × (row.job.0 ≤ range.last)) (λ row is. absurd (cc)) rows
