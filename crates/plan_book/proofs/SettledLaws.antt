-- Time leaves jobs that are over, and settled ones, as they are.
use Rattle.std.proofs.Common.{◌≡◌, ℕ, Bool, true, false, eqb, not, ◌&&◌, ◌||◌, List, ◌∙◌, ap}
use Rattle.std.specs.Prelude.{is_none}
use Rattle.std.proofs.lemmas.Bool.{and_parts}
use Rattle.drmaa_types.specs.States.{is_waiting, is_started}
use Rattle.drmaa_types.specs.declared.moments.End.{End}
use Rattle.drmaa_model.specs.declared.reservations.Accepted.{Accepted}
use Rattle.drmaa_model.specs.declared.rows.Row.{Row}
use Rattle.drmaa_model.specs.Courses.{is_unasked}
use Rattle.drmaa_model.specs.Reporting.{is_idle}
use Rattle.drmaa_model.specs.Time.{is_late, is_stranded, lapses, lapsed, is_due, called_in, kill_order}
use Rattle.drmaa_model.specs.Time as time
use Rattle.drmaa_model.specs.TimeLaws.{timed}
use Rattle.plan_book.specs.Open.{is_over}
use Rattle.plan_book.specs.Quiet.{is_left, IsLeftUntil}
use Rattle.plan_book.specs.Settled.{is_settled}
use Rattle.plan_book.proofs.QuietLaws.{not-true, lapsed-same, called-same}

-- ---- what is over

pub record Parts (row : Row) : Type 0 where
  pub waits : is_waiting row.course.state ≡ false
  pub starts : is_started row.course.state ≡ false

over-parts : (row : Row) → is_over row ≡ true → Parts row
over-parts row over =
    let two = and_parts (not (is_waiting row.course.state) && not (is_started row.course.state)) (is_none row.course.planned) over in
    let states = and_parts (not (is_waiting row.course.state)) (not (is_started row.course.state)) two.0 in
    record { waits = not-true (is_waiting row.course.state) states.0; starts = not-true (is_started row.course.state) states.1 }

pub settled-over : (row : Row) → is_settled row ≡ true → is_over row ≡ true
settled-over row settled =
    let all = and_parts (is_over row && is_idle row.course.phase) (eqb row.course.held 0) settled in
    (and_parts (is_over row) (is_idle row.course.phase) all.0).0

pub settled-parts : (row : Row) → is_settled row ≡ true → Parts row
settled-parts row settled = over-parts row (settled-over row settled)

-- ---- what time does to them

-- they neither lapse nor are due
over-idle : (moment : ℕ) (rs : List Accepted) (row : Row) → is_over row ≡ true → (lapses moment rs row ≡ false) × (is_due moment rs row ≡ false)
over-idle moment rs row over =
    let p = over-parts row over in
    (ap (λ (b : Bool). b && (is_late moment row || is_stranded rs row)) p.waits, ap (λ (b : Bool). b && (is_unasked row.course.kill && (time.is_over moment row || is_stranded rs row))) p.starts)

pub timed-stays : (moment : ℕ) (rs : List Accepted) (row : Row) → is_settled row ≡ true → timed moment rs row ≡ row
timed-stays moment rs row settled =
    let none = over-idle moment rs row (settled-over row settled) in
    ap (called_in moment rs) (lapsed-same moment rs row none.0) ∙ called-same moment rs row none.1

pub over-left : (moment : ℕ) (rs : List Accepted) (row : Row) → is_over row ≡ true → is_left moment rs row ≡ true
over-left moment rs row over =
    let none = over-idle moment rs row over in
    ap (λ (b : Bool). not b && not (is_due moment rs row)) none.0 ∙ ap not none.1

pub left-settled : (end : End) (rs : List Accepted) (row : Row) → is_settled row ≡ true → IsLeftUntil end rs row
left-settled end rs row settled = λ moment ahead. over-left moment rs row (settled-over row settled)
