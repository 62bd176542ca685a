-- Time keeps the room that is promised.
use Rattle.std.proofs.Common.{◌≡◌, ℕ, ◌+◌, Bool, true, false, cond, ◌&&◌, ◌||◌, List, map, filter, length, refl, sym, ◌∙◌, ap, arith}
use Rattle.std.proofs.lemmas.Bool.{and_parts}
use Rattle.drmaa_types.specs.States.{is_waiting, is_started}
use Rattle.drmaa_types.specs.declared.states.Note.TheVariants as note
use Rattle.drmaa_model.specs.declared.reservations.Accepted.{Accepted}
use Rattle.drmaa_model.specs.declared.rows.Row.{Row}
use Rattle.drmaa_model.specs.Courses.{failed, called, is_unasked}
use Rattle.drmaa_model.specs.Time.{is_late, is_over, is_stranded, lapses, lapsed, is_due, called_in}
use Rattle.drmaa_model.specs.TimeLaws.{trade, sum-kept, lapsed-cases, called-cases, waits-not_started}
use Rattle.plan_book.specs.Book.{owes, owes_kill, owed, owed_kills}

abbrev owes_row : Row → ℕ
owes_row row = owes row.course

abbrev asks_row : Row → ℕ
asks_row row = owes_kill row.course

owes-lapsed : (m : ℕ) (rs : List Accepted) (r : Row) → owes_row (lapsed m rs r) + cond (lapses m rs r) 1 0 ≡ owes_row r
owes-lapsed m rs r =
    (elim (lapses m rs r) as (λ t. lapses m rs r ≡ t →
    owes_row (cond t (record r { course = failed m (cond (is_late m r) note.PastDeadline note.ReservationGone) r.course }) r) + cond t 1 0 ≡ owes_row r) [
      | true ↦ λ h. sym (ap (λ (t : Bool). cond {A = ℕ} t 1 (cond (is_started r.course.state) 2 0)) (and_parts (is_waiting r.course.state) (is_late m r || is_stranded rs r) h).0)
      | false ↦ λ h. omega arith
    ]) refl

asks-lapsed : (m : ℕ) (rs : List Accepted) (r : Row) → asks_row (lapsed m rs r) ≡ asks_row r
asks-lapsed m rs r = lapsed-cases (λ (p q : Row). asks_row q ≡ asks_row p) m rs r (λ h. refl)
    (λ h waits n. sym (ap (λ (t : Bool). cond {A = ℕ} (t && is_unasked r.course.kill) 1 0) (waits-not_started r.course.state waits)))

asks-called : (m : ℕ) (rs : List Accepted) (r : Row) → asks_row (called_in m rs r) + cond (is_due m rs r) 1 0 ≡ asks_row r
asks-called m rs r =
    (elim (is_due m rs r) as (λ t. is_due m rs r ≡ t →
    asks_row (cond t (record r { course = called (cond (is_over m r) note.PastLimit note.ReservationGone) r.course }) r) + cond t 1 0 ≡ asks_row r) [
      | true ↦ λ h.
          (let a = and_parts (is_started r.course.state) (is_unasked r.course.kill && (is_over m r || is_stranded rs r)) h in
          let b = and_parts (is_unasked r.course.kill) (is_over m r || is_stranded rs r) a.1 in
          let before : asks_row r ≡ 1 = ap (λ (t : Bool). cond {A = ℕ} (t && is_unasked r.course.kill) 1 0) a.0 ∙ ap (λ (t : Bool). cond {A = ℕ} t 1 0) b.0 in
          let after : cond {A = ℕ} (is_started r.course.state && false) 1 0 ≡ 0 = ap (λ (t : Bool). cond {A = ℕ} (t && false) 1 0) a.0 in
          omega (arith, before, after))
      | false ↦ λ h. omega arith
    ]) refl

owes-called : (m : ℕ) (rs : List Accepted) (r : Row) → owes_row (called_in m rs r) ≡ owes_row r
owes-called m rs r = called-cases (λ (p q : Row). owes_row q ≡ owes_row p) m rs r (λ h. refl) (λ h s n. refl)

pub changes-expire : (m : ℕ) (rs : List Accepted) (rows : List Row) → owed (map (lapsed m rs) rows) + length (filter (lapses m rs) rows) ≡ owed rows
changes-expire m rs rows = trade owes_row (lapsed m rs) (lapses m rs) (owes-lapsed m rs) rows

pub orders-expire : (m : ℕ) (rs : List Accepted) (rows : List Row) → owed_kills (map (lapsed m rs) rows) ≡ owed_kills rows
orders-expire m rs rows = sum-kept asks_row (lapsed m rs) (asks-lapsed m rs) rows

pub orders-called : (m : ℕ) (rs : List Accepted) (rows : List Row) → owed_kills (map (called_in m rs) rows) + length (filter (is_due m rs) rows) ≡ owed_kills rows
orders-called m rs rows = trade asks_row (called_in m rs) (is_due m rs) (asks-called m rs) rows

pub changes-called : (m : ℕ) (rs : List Accepted) (rows : List Row) → owed (map (called_in m rs) rows) ≡ owed rows
changes-called m rs rows = sum-kept owes_row (called_in m rs) (owes-called m rs) rows
