-- The jobs among which all are that a call is for.
use Rattle.std.proofs.Common.{◌≡◌, ℕ, zero, suc, ◌+◌, ◌-◌, Bool, true, false, cond, ◌&&◌, List, [], ◌∷◌, ◌++◌, map, filter, take, drop, Some, None, refl, sym, ◌∙◌, ap, subst, arith, append-nil}
use Rattle.std.specs.List.{AllByRecursion, flat_map}
use Rattle.std.proofs.lemmas.Bool.{eqb-true}
use Rattle.std.proofs.lemmas.Grind.{flat_map-append}
use Rattle.std.proofs.lemmas.List.{take-append-drop}
use Rattle.std.proofs.lemmas.List.Elements.{filter-append}
use Rattle.drmaa_types.specs.declared.identifiers.JobId.{JobId}
use Rattle.drmaa_types.specs.declared.states.Control.{Control}
use Rattle.drmaa_model.specs.declared.calls.Target.{Target}
use Rattle.drmaa_model.specs.declared.calls.Target.TheVariants as target
use Rattle.drmaa_model.specs.declared.courses.Course.{Course}
use Rattle.drmaa_model.specs.declared.reservations.Accepted.{Accepted}
use Rattle.drmaa_model.specs.declared.rows.Row.{Row}
use Rattle.drmaa_model.specs.Controlling.{permits, is_controlled, controlled_row, control_step, asked_orders, orders_for}
use Rattle.drmaa_model.specs.ControlLaws.{control-cases}
use Rattle.drmaa_model.specs.Courses.{asked_for}
use Rattle.drmaa_model.specs.Fit.{IsRising, number_of}
use Rattle.drmaa_model.specs.RowLaws.{all-implied, change_of-same, rising-found}
use Rattle.drmaa_model.specs.Rows.{is_of, row_of, change_of, with_course}
use Rattle.drmaa_model.specs.Targets.{is_meant}
use Rattle.drmaa_model.specs.TimeLaws.{timed, timed-only}
use Rattle.plan_book.specs.Meant.{NoneMeant, HasAllMeant}
use Rattle.plan_book.specs.Places.{IsAt}
use Rattle.plan_book.specs.Sweeps.{noted}
use Rattle.plan_book.proofs.Searched.{others-before, others-behind, others-all}

-- ---- which they are

one-behind : (rows : List Row) (i : ℕ) → drop i rows ≡ take 1 (drop i rows) ++ drop (suc i) rows
one-behind [] zero = refl
one-behind [] (suc i) = refl
one-behind (row ∷ rows) zero = refl
one-behind (row ∷ rows) (suc i) = one-behind rows i

pub among-at : (job : JobId) (rows list : List Row) (i : ℕ) → IsRising number_of rows → IsAt number_of job.0 rows i → list ≡ rows → HasAllMeant (target.Job job) rows (take (i + 1 - i) (drop i list))
among-at job rows list i rising at same = record {
  before = take i rows;
  behind = drop (suc i) rows;
  none_before = others-before number_of job.0 rows i rising at;
  none_behind = others-behind number_of job.0 rows i rising at;
  parts =
      (let one : i + 1 - i ≡ 1 = omega arith in
      let part : take (i + 1 - i) (drop i list) ≡ take 1 (drop i rows) = ap (λ (n : ℕ). take n (drop i list)) one ∙ ap (λ (rs : List Row). take 1 (drop i rs)) same in
      sym (take-append-drop i rows) ∙ ap (λ (rs : List Row). take i rows ++ rs) (one-behind rows i ∙ ap (λ (rs : List Row). rs ++ drop (suc i) rows) (sym part)));
}

pub among-none : (job : JobId) (rows : List Row) → row_of job rows ≡ None → HasAllMeant (target.Job job) rows []
among-none job rows none = record { before = rows; behind = []; none_before = others-all number_of job.0 rows none; none_behind = tt; parts = sym (append-nil rows) }

-- ---- what is said of all is said of these

pub flat-none : {Y : Type 0} (f : Row → List Y) (rows : List Row) → AllByRecursion (λ (row : Row). f row ≡ []) rows → flat_map f rows ≡ []
flat-none f [] none = refl
flat-none f (row ∷ rows) none = ap (λ ys. ys ++ flat_map f rows) none.0 ∙ flat-none f rows none.1

flat-part : {Y : Type 0} (f : Row → List Y) (t : Target) → ((row : Row) → is_meant t row ≡ false → f row ≡ []) → (rows part : List Row) → HasAllMeant t rows part → flat_map f part ≡ flat_map f rows
flat-part f t nothing rows part all =
    let none = λ (rs : List Row) (h : NoneMeant t rs). flat-none f rs (all-implied (λ (row : Row). is_meant t row ≡ false) (λ (row : Row). f row ≡ []) nothing rs h) in
    sym (ap (flat_map f) all.parts ∙ flat_map-append f all.before (part ++ all.behind) ∙ ap (λ ys. ys ++ flat_map f (part ++ all.behind)) (none all.before all.none_before)
    ∙ flat_map-append f part all.behind ∙ ap (λ ys. flat_map f part ++ ys) (none all.behind all.none_behind) ∙ append-nil (flat_map f part))

filter-none : (test : Row → Bool) (rows : List Row) → AllByRecursion (λ (row : Row). test row ≡ false) rows → filter test rows ≡ []
filter-none test [] none = refl
filter-none test (row ∷ rows) none = ap (λ b. cond b (row ∷ filter test rows) (filter test rows)) none.0 ∙ filter-none test rows none.1

pub filter-part : (test : Row → Bool) (t : Target) → ((row : Row) → is_meant t row ≡ false → test row ≡ false) → (rows part : List Row) → HasAllMeant t rows part → filter test part ≡ filter test rows
filter-part test t nothing rows part all =
    let none = λ (rs : List Row) (h : NoneMeant t rs). filter-none test rs (all-implied (λ (row : Row). is_meant t row ≡ false) (λ (row : Row). test row ≡ false) nothing rs h) in
    sym (ap (filter test) all.parts ∙ filter-append test all.before (part ++ all.behind) ∙ ap (λ ys. ys ++ filter test (part ++ all.behind)) (none all.before all.none_before)
    ∙ filter-append test part all.behind ∙ ap (λ ys. filter test part ++ ys) (none all.behind all.none_behind) ∙ append-nil (filter test part))

-- ---- a call leaves those that are not meant

pub step-stays : (moment : ℕ) (t : Target) (what : Control) (row : Row) → is_meant t row ≡ false → control_step moment t what row ≡ row
step-stays moment t what row none = ap (λ b. cond (b && permits what row) (controlled_row moment what row) row) none

pub noted-part : (entry moment : ℕ) (t : Target) (what : Control) (rows part : List Row) → HasAllMeant t rows part → flat_map (noted entry moment t what) part ≡ flat_map (noted entry moment t what) rows
noted-part entry moment t what rows part all =
    flat-part (noted entry moment t what) t (λ row none. ap (change_of entry row) (step-stays moment t what row none) ∙ change_of-same entry row) rows part all

pub asked-part : (t : Target) (what : Control) (rows part : List Row) → HasAllMeant t rows part → flat_map (asked_orders t what) part ≡ flat_map (asked_orders t what) rows
asked-part t what rows part all =
    flat-part (asked_orders t what) t (λ row none. ap (λ b. cond (b && permits what row) (orders_for row.job (asked_for what row.course)) []) none) rows part all

-- a job is meant whatever its course
meant-course : (t : Target) (row : Row) (course : Course) → is_meant t (record row { course = course }) ≡ is_meant t row
meant-course (target.Job job) row course = refl
meant-course (target.Array array) row course = refl

pub acted-part : (moment : ℕ) (rs : List Accepted) (t : Target) (what : Control) (rows part : List Row) → HasAllMeant t rows part
    → filter (λ (row : Row). is_controlled t what (timed moment rs row)) part ≡ filter (λ (row : Row). is_controlled t what (timed moment rs row)) rows
acted-part moment rs t what rows part all =
    filter-part (λ (row : Row). is_controlled t what (timed moment rs row)) t
    (λ row none. ap (λ b. b && permits what (timed moment rs row)) (ap (is_meant t) (timed-only moment rs row) ∙ meant-course t row (timed moment rs row).course ∙ none)) rows part all

-- ---- one job goes on

map-same : (f g : Row → Row) (rows : List Row) → AllByRecursion (λ (row : Row). f row ≡ g row) rows → map f rows ≡ map g rows
map-same f g [] same = refl
map-same f g (row ∷ rows) same = ap (λ (r : Row). r ∷ map f rows) same.0 ∙ ap (λ (rs : List Row). g row ∷ rs) (map-same f g rows same.1)

pub map-stays : (f : Row → Row) (rows : List Row) → AllByRecursion (λ (row : Row). f row ≡ row) rows → map f rows ≡ rows
map-stays f [] same = refl
map-stays f (row ∷ rows) same = ap (λ (r : Row). r ∷ map f rows) same.0 ∙ ap (λ (rs : List Row). row ∷ rs) (map-stays f rows same.1)

-- a call changes the course alone
step-course : (moment : ℕ) (t : Target) (what : Control) (row : Row) → (let r : Row = record row { course = (control_step moment t what row).course } in r) ≡ control_step moment t what row
step-course moment t what row = control-cases (λ (p q : Row). (let r : Row = record p { course = q.course } in r) ≡ q) moment t what row refl (λ state e. refl)

module _ (job : JobId) (moment : ℕ) (what : Control) (rows : List Row) where
  pub step-job : (row : Row) → IsRising number_of rows → row_of job rows ≡ Some row → map (with_course job (control_step moment (target.Job job) what row).course) rows ≡ map (control_step moment (target.Job job) what) rows
  step-job row rising found =
      let step = control_step moment (target.Job job) what in
      map-same (with_course job (step row).course) step rows
      (all-implied (λ (r : Row). row_of r.job rows ≡ Some r) (λ (r : Row). with_course job (step row).course r ≡ step r)
      (λ r kept.
      (elim (is_of job r) as (λ b. is_of job r ≡ b → cond b (record r { course = (step row).course }) r ≡ step r) [
        | false ↦ λ e. sym (step-stays moment (target.Job job) what r e)
        | true ↦ λ e.
            (let own : r.job ≡ job = ap (λ (n : ℕ). let j : JobId = record { 0 = n } in j) (eqb-true r.job.0 job.0 e) in
            let there : row_of job rows ≡ Some r = subst (λ (j : JobId). row_of j rows ≡ Some r) own kept in
            let first = found in
            let same : row ≡ r = cc in
            ap (λ (x : Row). let q : Row = record r { course = (step x).course } in q) same ∙ step-course moment (target.Job job) what r)
      ]) refl) rows (rising-found rows rising))

  pub step-absent : row_of job rows ≡ None → rows ≡ map (control_step moment (target.Job job) what) rows
  step-absent none =
      let step = control_step moment (target.Job job) what in
      sym (map-stays step rows (all-implied (λ (r : Row). is_of job r ≡ false) (λ (r : Row). step r ≡ r) (λ r other. step-stays moment (target.Job job) what r other) rows (others-all number_of job.0 rows none)))
