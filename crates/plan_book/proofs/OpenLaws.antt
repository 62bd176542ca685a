-- The jobs at the front that are settled, and the greatest priority, as rows come in, go on and leave.
use Rattle.std.proofs.Common.{◌≡◌, ℕ, Bool, true, false, cond, List, [], ◌∷◌, ◌++◌, map, filter, refl, sym, ◌∙◌, ap, subst, arith}
use Rattle.std.specs.Prelude.{int_lt, ℤ, pos, negsuc}
use Rattle.std.specs.Int.{int_max}
use Rattle.std.specs.List.{remove}
use Rattle.std.proofs.lemmas.Bool.{ltb-true, ltb-false, le-ltb}
use Rattle.drmaa_types.specs.declared.identifiers.JobId.{JobId}
use Rattle.drmaa_types.specs.declared.states.Control.{Control}
use Rattle.drmaa_model.specs.declared.calls.Target.{Target}
use Rattle.drmaa_model.specs.declared.courses.Course.{Course}
use Rattle.drmaa_model.specs.declared.reservations.Accepted.{Accepted}
use Rattle.drmaa_model.specs.declared.rows.Row.{Row}
use Rattle.drmaa_model.specs.declared.rows.Wants.{Wants}
use Rattle.drmaa_model.specs.Controlling.{control_step}
use Rattle.drmaa_model.specs.ControlLaws.{control-cases, control-wants}
use Rattle.drmaa_model.specs.Fit.{number_of}
use Rattle.drmaa_model.specs.RowLaws.{all-filter, all-implied, all-map, all-push}
use Rattle.drmaa_model.specs.Rows.{is_of, with_course}
use Rattle.drmaa_model.specs.Time.{lapsed}
use Rattle.drmaa_model.specs.TimeLaws.{timed, lapsed-wants, called-wants}
use Rattle.plan_book.specs.Open.{IsPriorityBound}
use Rattle.plan_book.specs.Settled.{is_settled}
use Rattle.plan_book.proofs.Searched.{all-removed}
use Rattle.plan_book.proofs.SettledLaws.{settled-parts, timed-stays}
use Rattle.plan_book.proofs.SweepLaws.{lives}

abbrev Settled : Row → Type 0
Settled row = is_settled row ≡ true

-- ---- the jobs at the front

-- ---- settled jobs go on

-- time leaves them as they are
pub settled-timed-row : (moment : ℕ) (rs : List Accepted) (row : Row) → is_settled row ≡ true → is_settled (timed moment rs row) ≡ true
settled-timed-row moment rs row settled = subst Settled (sym (timed-stays moment rs row settled)) settled

-- no call acts on them
pub settled-step-row : (moment : ℕ) (t : Target) (what : Control) (row : Row) → is_settled row ≡ true → is_settled (control_step moment t what row) ≡ true
settled-step-row moment t what row settled =
    control-cases (λ (p q : Row). is_settled q ≡ true) moment t what row settled
    (λ state e. (let parts = settled-parts row settled in absurd (lives what row.course.state state e parts.waits parts.starts)))

-- ---- the greatest priority

int_lt-self : (x : ℤ) → int_lt x x ≡ false
int_lt-self (pos a) = le-ltb a a (omega arith)
int_lt-self (negsuc a) = le-ltb a a (omega arith)

int_lt-not : (x y z : ℤ) → int_lt x y ≡ false → int_lt y z ≡ false → int_lt x z ≡ false
int_lt-not (pos a) (pos b) (pos c) h k = (let p = ltb-false a b h in let q = ltb-false b c k in le-ltb a c (omega arith))
int_lt-not (pos a) (pos b) (negsuc c) h k = refl
int_lt-not (pos a) (negsuc b) (pos c) h k = absurd (cc)
int_lt-not (pos a) (negsuc b) (negsuc c) h k = refl
int_lt-not (negsuc a) (pos b) z h k = absurd (cc)
int_lt-not (negsuc a) (negsuc b) (pos c) h k = absurd (cc)
int_lt-not (negsuc a) (negsuc b) (negsuc c) h k = (let p = ltb-false b a h in let q = ltb-false c b k in le-ltb c a (omega arith))

int_lt-other : (x y : ℤ) → int_lt x y ≡ true → int_lt y x ≡ false
int_lt-other (pos a) (pos b) h = (let p = ltb-true a b h in le-ltb b a (omega arith))
int_lt-other (pos a) (negsuc b) h = absurd (cc)
int_lt-other (negsuc a) (pos b) h = refl
int_lt-other (negsuc a) (negsuc b) h = (let p = ltb-true b a h in le-ltb a b (omega arith))

max-first : (x y : ℤ) → int_lt (int_max x y) x ≡ false
max-first x y =
    (elim (int_lt y x) as (λ b. int_lt y x ≡ b → int_lt (cond b x y) x ≡ false) [
      | true ↦ λ e. int_lt-self x
      | false ↦ λ e. e
    ]) refl

max-second : (x y : ℤ) → int_lt (int_max x y) y ≡ false
max-second x y =
    (elim (int_lt y x) as (λ b. int_lt y x ≡ b → int_lt (cond b x y) y ≡ false) [
      | true ↦ λ e. int_lt-other y x e
      | false ↦ λ e. int_lt-self y
    ]) refl

greatest-up : (rows : List Row) (less more : ℤ) → int_lt more less ≡ false → IsPriorityBound rows less → IsPriorityBound rows more
greatest-up rows less more up all = all-implied (λ (row : Row). int_lt less row.wants.priority ≡ false) (λ (row : Row). int_lt more row.wants.priority ≡ false) (λ row h. int_lt-not more less row.wants.priority up h) rows all

pub greatest-push : (rows : List Row) (row : Row) (was : ℤ) → IsPriorityBound rows was → IsPriorityBound (rows ++ row ∷ []) (int_max was row.wants.priority)
greatest-push rows row was all =
    let now = int_max was row.wants.priority in
    all-push (λ (r : Row). int_lt now r.wants.priority ≡ false) rows row (greatest-up rows was now (max-first was row.wants.priority) all) (max-second was row.wants.priority)

-- jobs that want the same
pub greatest-map : (f : Row → Row) → ((row : Row) → (f row).wants ≡ row.wants) → (rows : List Row) (greatest : ℤ) → IsPriorityBound rows greatest → IsPriorityBound (map f rows) greatest
greatest-map f same rows greatest all =
    all-map (λ (row : Row). int_lt greatest row.wants.priority ≡ false) f rows
    (all-implied (λ (row : Row). int_lt greatest row.wants.priority ≡ false) (λ (row : Row). int_lt greatest (f row).wants.priority ≡ false)
    (λ row h. ap (λ (w : Wants). int_lt greatest w.priority) (same row) ∙ h) rows all)

pub greatest-timed : (moment : ℕ) (rs : List Accepted) (rows : List Row) (greatest : ℤ) → IsPriorityBound rows greatest → IsPriorityBound (map (timed moment rs) rows) greatest
greatest-timed moment rs rows greatest all = greatest-map (timed moment rs) (λ row. called-wants moment rs (lapsed moment rs row) ∙ lapsed-wants moment rs row) rows greatest all

pub greatest-step : (moment : ℕ) (t : Target) (what : Control) (rows : List Row) (greatest : ℤ) → IsPriorityBound rows greatest → IsPriorityBound (map (control_step moment t what) rows) greatest
greatest-step moment t what rows greatest all = greatest-map (control_step moment t what) (control-wants moment t what) rows greatest all

with-wants : (job : JobId) (course : Course) (row : Row) → (with_course job course row).wants ≡ row.wants
with-wants job course row =
    elim (is_of job row) as (λ b. (let r : Row = cond b (record row { course = course }) row in r).wants ≡ row.wants) [ true ↦ refl | false ↦ refl ]

pub greatest-course : (job : JobId) (course : Course) (rows : List Row) (greatest : ℤ) → IsPriorityBound rows greatest → IsPriorityBound (map (with_course job course) rows) greatest
greatest-course job course rows greatest all = greatest-map (with_course job course) (with-wants job course) rows greatest all

-- jobs that leave
pub greatest-filter : (test : Row → Bool) (rows : List Row) (greatest : ℤ) → IsPriorityBound rows greatest → IsPriorityBound (filter test rows) greatest
greatest-filter test rows greatest all = all-filter (λ (row : Row). int_lt greatest row.wants.priority ≡ false) test rows all

pub greatest-removed : (rows left : List Row) (place : ℕ) (greatest : ℤ) → left ≡ remove rows place → IsPriorityBound rows greatest → IsPriorityBound left greatest
greatest-removed rows left place greatest gone all =
    subst (λ (rs : List Row). IsPriorityBound rs greatest) (sym gone) (all-removed number_of (λ (row : Row). int_lt greatest row.wants.priority ≡ false) rows place all)
