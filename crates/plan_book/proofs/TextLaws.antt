-- The text of the templates of rows as rows go on and leave.
use Rattle.std.proofs.Common.{◌≡◌, ℕ, ◌+◌, ◌<◌, Bool, true, false, cond, not, List, ◌∷◌, map, filter, drop, length, get_or, Option, refl, sym, ◌∙◌, ap, subst, arith}
use Rattle.std.specs.List.{remove}
use Rattle.std.proofs.lemmas.List.Filters.{sum_by-filter_both}
use Rattle.std.proofs.lemmas.List.{drop_more}
use Rattle.std.proofs.lemmas.List.Sums.{sum_by-cons, sum_by-remove}
use Rattle.job_template.specs.Texts.{text_length}
use Rattle.drmaa_types.specs.declared.identifiers.JobId.{JobId}
use Rattle.drmaa_types.specs.declared.states.Control.{Control}
use Rattle.drmaa_model.specs.declared.calls.Target.{Target}
use Rattle.drmaa_model.specs.declared.courses.Course.{Course}
use Rattle.drmaa_model.specs.declared.reservations.Accepted.{Accepted}
use Rattle.drmaa_model.specs.declared.rows.Row.{Row}
use Rattle.drmaa_model.specs.Controlling.{control_step}
use Rattle.drmaa_model.specs.ControlLaws.{control-cases}
use Rattle.drmaa_model.specs.Rows.{is_of, with_course}
use Rattle.drmaa_model.specs.Submitting.{kept_text}
use Rattle.drmaa_model.specs.TimeLaws.{sum-kept, timed, timed-only}
use Rattle.plan_book.specs.Texts.{IsRoomBeside}

-- ---- the rows go on, each with its template

pub same-room : (n m : ℕ) (room : Option ℕ) → m ≡ n → IsRoomBeside n room → IsRoomBeside m room
same-room n m room same is = subst (λ (k : ℕ). IsRoomBeside k room) (sym same) is

pub text-map : (f : Row → Row) → ((row : Row) → (f row).template ≡ row.template) → (rows : List Row) → kept_text (map f rows) ≡ kept_text rows
text-map f same rows = sum-kept (λ (row : Row). text_length row.template) f (λ row. ap text_length (same row)) rows

pub text-timed : (moment : ℕ) (rs : List Accepted) (rows : List Row) → kept_text (map (timed moment rs) rows) ≡ kept_text rows
text-timed moment rs rows = text-map (timed moment rs) (λ row. ap (λ (r : Row). r.template) (timed-only moment rs row)) rows

with-template : (job : JobId) (course : Course) (row : Row) → (with_course job course row).template ≡ row.template
with-template job course row =
    elim (is_of job row) as (λ b. (let r : Row = cond b (record row { course = course }) row in r).template ≡ row.template) [ true ↦ refl | false ↦ refl ]

pub text-course : (job : JobId) (course : Course) (rows : List Row) → kept_text (map (with_course job course) rows) ≡ kept_text rows
text-course job course rows = text-map (with_course job course) (with-template job course) rows

step-template : (moment : ℕ) (t : Target) (what : Control) (row : Row) → (control_step moment t what row).template ≡ row.template
step-template moment t what row = control-cases (λ (p q : Row). q.template ≡ p.template) moment t what row refl (λ state e. refl)

pub text-step : (moment : ℕ) (t : Target) (what : Control) (rows : List Row) → kept_text (map (control_step moment t what) rows) ≡ kept_text rows
text-step moment t what rows = text-map (control_step moment t what) (step-template moment t what) rows

-- ---- rows leave

-- what leaves and what stays
pub text-both : (leaves : Row → Bool) (rows : List Row) → kept_text (filter leaves rows) + kept_text (filter (λ row. not (leaves row)) rows) ≡ kept_text rows
text-both leaves rows = sum_by-filter_both leaves (λ row. not (leaves row)) (λ row. refl) (λ (row : Row). text_length row.template) rows

-- what the next job leaves of the text of those that leave
pub text-leaves : (leaves : Row → Bool) (rows : List Row) (i : ℕ) (row : Row) (b : Bool) → i < length rows → row ≡ get_or rows i row → leaves row ≡ b
    → kept_text (filter leaves (drop i rows)) ≡ cond b (text_length row.template) 0 + kept_text (filter leaves (drop (i + 1) rows))
text-leaves leaves rows i row b within is test =
    let rest = filter leaves (drop (i + 1) rows) in
    ap (λ (rs : List Row). kept_text (filter leaves rs)) (drop_more rows i row within ∙ ap (λ (r : Row). r ∷ drop (i + 1) rows) (sym is)) ∙ ap (λ (t : Bool). kept_text (cond t (row ∷ rest) rest)) test
    ∙ (elim b as (λ t. kept_text (cond t (row ∷ rest) rest) ≡ cond t (text_length row.template) 0 + kept_text rest) [
      | true ↦ sum_by-cons (λ (r : Row). text_length r.template) row rest
      | false ↦ omega arith
    ])

-- one leaves
pub room-removed : (rows left : List Row) (place : ℕ) (row : Row) (room : Option ℕ) → place < length rows → row ≡ get_or rows place row → left ≡ remove rows place → IsRoomBeside (kept_text rows) room
    → IsRoomBeside (kept_text left + text_length row.template) room
room-removed rows left place row room within is gone beside =
    same-room (kept_text rows) (kept_text left + text_length row.template) room
    (omega (arith, ap kept_text gone, sum_by-remove (λ (r : Row). text_length r.template) rows place row within, ap (λ (r : Row). text_length r.template) is)) beside
