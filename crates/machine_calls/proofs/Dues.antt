-- How many reports are to come, after time and after each operation.
use Rattle.std.proofs.Common.{◌≡◌, ℕ, ◌+◌, ◌≤◌, Bool, true, false, cond, not, List, [], ◌∷◌, ◌++◌, map, filter, Some, None, refl, arith}
use Rattle.std.specs.Option.{option_map_or}
use Rattle.std.proofs.lemmas.List.Sums.{sum_by-cons}
use Rattle.drmaa_types.specs.declared.states.Control.{Control}
use Rattle.drmaa_types.specs.declared.states.Control.TheVariants.{Suspend, Resume, Hold, Release, Terminate}
use Rattle.drmaa_types.specs.declared.states.JobState.{JobState}
use Rattle.drmaa_types.specs.declared.states.Note.TheVariants as note
use Rattle.drmaa_types.specs.States.{is_started, after_control}
use Rattle.drmaa_model.specs.declared.calls.Target.{Target}
use Rattle.drmaa_model.specs.declared.courses.Course.{Course}
use Rattle.drmaa_model.specs.declared.reservations.Accepted.{Accepted}
use Rattle.drmaa_model.specs.declared.rows.Row.{Row}
use Rattle.drmaa_model.specs.Controlling.{control_step, controlled_row, is_controlled}
use Rattle.drmaa_model.specs.Courses.{controlled, terminated, called, failed, may_kill}
use Rattle.drmaa_model.specs.Effects.{forget_home, left_by, is_forgotten}
use Rattle.drmaa_model.specs.Fit.{IsRising, number_of}
use Rattle.drmaa_model.specs.Plan.{Plan}
use Rattle.drmaa_model.specs.RowLaws.{sum_with_course}
use Rattle.drmaa_model.specs.Rows.{row_of, with_course}
use Rattle.drmaa_model.specs.Submitting.{Member, new_rows, new_row}
use Rattle.drmaa_model.specs.Time.{advance_plan, call_in, expire, let_go, come_to, lapsed, called_in}
use Rattle.drmaa_model.specs.TimeLaws.{lapsed-cases, called-cases}
use Rattle.scheduler_core.specs.Facts.{reports_due, reports_to_come}

abbrev pub due : Row → ℕ
due row = reports_due row.course.phase

pub due-map : (f : Row → Row) → ((r : Row) → due (f r) ≤ due r) → (rows : List Row) → reports_to_come (map f rows) ≤ reports_to_come rows
due-map f each [] = omega arith
due-map f each (r ∷ rows) = omega (arith, each r, due-map f each rows, sum_by-cons due r rows, sum_by-cons due (f r) (map f rows))

pub due-filter : (test : Row → Bool) (rows : List Row) → reports_to_come (filter test rows) ≤ reports_to_come rows
due-filter test [] = omega arith
due-filter test (r ∷ rows) =
    elim (test r) as (λ b. reports_to_come (cond b (r ∷ filter test rows) (filter test rows)) ≤ reports_to_come (r ∷ rows)) [
      | true ↦ omega (arith, due-filter test rows, sum_by-cons due r (filter test rows), sum_by-cons due r rows)
      | false ↦ omega (arith, due-filter test rows, sum_by-cons due r rows)
    ]

pub due-append : (xs ys : List Row) → reports_to_come (xs ++ ys) ≡ reports_to_come xs + reports_to_come ys
due-append [] ys = omega arith
due-append (x ∷ xs) ys = omega (arith, due-append xs ys, sum_by-cons due x xs, sum_by-cons due x (xs ++ ys))

-- ---- time

lapsed-due : (moment : ℕ) (rs : List Accepted) (r : Row) → due (lapsed moment rs r) ≤ due r
lapsed-due moment rs r = lapsed-cases (λ (p q : Row). due q ≤ due p) moment rs r (λ h. omega arith) (λ h w n. omega arith)

called-due : (moment : ℕ) (rs : List Accepted) (r : Row) → due (called_in moment rs r) ≤ due r
called-due moment rs r = called-cases (λ (p q : Row). due q ≤ due p) moment rs r (λ h. omega arith) (λ h w n. omega arith)

pub expire-due : (entry : ℕ) (p : Plan) → reports_to_come (call_in (expire entry p)).rows ≤ reports_to_come p.rows
expire-due entry p =
    omega (arith, due-map (called_in p.moment p.reservations) (called-due p.moment p.reservations) (map (lapsed p.moment p.reservations) p.rows), due-map (lapsed p.moment p.reservations) (lapsed-due p.moment p.reservations) p.rows)

pub advance-due : (entry at : ℕ) (p : Plan) → reports_to_come (advance_plan entry at p).rows ≤ reports_to_come p.rows
advance-due entry at p = expire-due entry (let_go (come_to at p))

-- ---- control

terminated-due : (moment : ℕ) (c : Course) → reports_due (terminated moment c).phase ≤ reports_due c.phase
terminated-due moment c =
    elim (is_started c.state) as (λ b. reports_due (cond b (cond (may_kill c.kill) (called note.Terminated c) c) (failed moment note.Terminated c)).phase ≤ reports_due c.phase) [
      | true ↦ (elim (may_kill c.kill) as (λ k. reports_due (cond k (called note.Terminated c) c).phase ≤ reports_due c.phase) [ true ↦ omega arith | false ↦ omega arith ])
      | false ↦ omega arith
    ]

controlled-due : (moment : ℕ) (what : Control) (state : JobState) (c : Course) → reports_due (controlled moment what state c).phase ≤ reports_due c.phase
controlled-due moment Suspend state c = omega arith
controlled-due moment Resume state c = omega arith
controlled-due moment Hold state c = omega arith
controlled-due moment Release state c = omega arith
controlled-due moment Terminate state c = terminated-due moment c

row-due : (moment : ℕ) (what : Control) (r : Row) → due (controlled_row moment what r) ≤ due r
row-due moment what r =
    elim (after_control r.course.state what) as (λ o. due (option_map_or (λ (state : JobState). record r { course = controlled moment what state r.course }) o r) ≤ due r) [
      | None ↦ omega arith
      | Some state ↦ controlled-due moment what state r.course
    ]

pub control-due : (moment : ℕ) (t : Target) (what : Control) (rows : List Row) → reports_to_come (map (control_step moment t what) rows) ≤ reports_to_come rows
control-due moment t what rows =
    due-map (control_step moment t what)
    (λ r. (elim (is_controlled t what r) as (λ b. due (cond b (controlled_row moment what r) r) ≤ due r) [ true ↦ row-due moment what r | false ↦ omega arith ])) rows

-- ---- one job

pub go-due : (p : Plan) (row : Row) (course : Course) → IsRising number_of p.rows → row_of row.job p.rows ≡ Some row
    → reports_to_come (map (with_course row.job course) p.rows) + due row ≡ reports_to_come p.rows + reports_due course.phase
go-due p row course rising found = sum_with_course row.job course due p.rows row rising found

-- ---- submission, and a home that is forgotten

pub new-due : (home : ℕ) (p : Plan) (number : ℕ) (ms : List Member) → reports_to_come (new_rows home p number ms) ≡ 0
new-due home p number [] = refl
new-due home p number (m ∷ ms) = omega (arith, new-due home p (number + 1) ms, sum_by-cons due (new_row home p number m) (new_rows home p (number + 1) ms))

pub forget-due : (home : ℕ) (p : Plan) → reports_to_come (forget_home home p).rows ≤ reports_to_come p.rows
forget-due home p =
    omega (
      arith,
      due-map (λ (row : Row). record row { home = left_by home row.home }) (λ r. omega arith) (filter (λ (row : Row). not (is_forgotten home row)) p.rows),
      due-filter (λ (row : Row). not (is_forgotten home row)) p.rows,
    )
