-- A job as it will be when time has come to a moment.
use Rattle.std.proofs.Common.{◌≡◌, ℕ, true, false, cond, ◌&&◌, ◌||◌, List, Option, Some, None, max, filter, refl, sym, ◌∙◌, ap}
use Rattle.std.specs.Option.{option_map}
use Rattle.std.proofs.lemmas.Bool.{and_parts}
use Rattle.drmaa_types.specs.States.{is_waiting, is_state}
use Rattle.drmaa_types.specs.declared.identifiers.JobId.{JobId}
use Rattle.drmaa_types.specs.declared.states.JobState.{JobState}
use Rattle.drmaa_types.specs.declared.states.JobState.TheVariants.{Undetermined, Queued, QueuedHeld, Running, Suspended, Requeued, RequeuedHeld, Done, Failed}
use Rattle.drmaa_types.specs.declared.states.Note.TheVariants as note
use Rattle.drmaa_model.specs.declared.reservations.Accepted.{Accepted}
use Rattle.drmaa_model.specs.declared.rows.Row.{Row}
use Rattle.drmaa_model.specs.Courses.{failed}
use Rattle.drmaa_model.specs.Plan.{Plan}
use Rattle.drmaa_model.specs.Rows.{row_of}
use Rattle.drmaa_model.specs.Time.{come_to, let_go, lasts, lapses, lapsed, called_in, is_late, is_stranded, rows_at}
use Rattle.drmaa_model.specs.TimeLaws.{row_of-advance, called-cases, timed}

pub row-then : (at : ℕ) (p : Plan) (job : JobId) (row : Row) → Some row ≡ row_of job p.rows
    → row_of job (rows_at at p) ≡ Some (timed (max p.moment at) (filter (lasts (max p.moment at)) p.reservations) row)
row-then at p job row found =
    let q = let_go (come_to at p) in
    row_of-advance 0 at p job ∙ ap (λ (o : Option Row). option_map (called_in q.moment q.reservations) (option_map (lapsed q.moment q.reservations) o)) (sym found)

called-state : (m : ℕ) (rs : List Accepted) (r : Row) → (called_in m rs r).course.state ≡ r.course.state
called-state m rs r = called-cases (λ (p q : Row). q.course.state ≡ p.course.state) m rs r (λ h. refl) (λ h s n. refl)

waits-not_failed : (s : JobState) → (is_waiting s && is_state s Failed) ≡ false
waits-not_failed Undetermined = refl
waits-not_failed Queued = refl
waits-not_failed QueuedHeld = refl
waits-not_failed Running = refl
waits-not_failed Suspended = refl
waits-not_failed Requeued = refl
waits-not_failed RequeuedHeld = refl
waits-not_failed Done = refl
waits-not_failed Failed = refl

-- a waiting job that has ended when time has come to the moment is one that lapses
pub lapses-shown : (m : ℕ) (rs : List Accepted) (r : Row) → (is_waiting r.course.state && is_state (timed m rs r).course.state Failed) ≡ lapses m rs r
lapses-shown m rs r =
    let over : Row = record r { course = failed m (cond (is_late m r) note.PastDeadline note.ReservationGone) r.course } in
    (elim (lapses m rs r) as (λ t. lapses m rs r ≡ t → (is_waiting r.course.state && is_state (called_in m rs (cond t over r)).course.state Failed) ≡ t) [
      | true ↦ λ h.
          ap (λ (s : JobState). is_waiting r.course.state && is_state s Failed) (called-state m rs over)
          ∙ ap (λ b. b && true) (and_parts (is_waiting r.course.state) (is_late m r || is_stranded rs r) h).0
      | false ↦ λ h. ap (λ (s : JobState). is_waiting r.course.state && is_state s Failed) (called-state m rs r) ∙ waits-not_failed r.course.state
    ]) refl

pub none-then : (at : ℕ) (p : Plan) (job : JobId) → None ≡ row_of job p.rows → row_of job (rows_at at p) ≡ None
none-then at p job lost =
    let q = let_go (come_to at p) in
    row_of-advance 0 at p job ∙ ap (λ (o : Option Row). option_map (called_in q.moment q.reservations) (option_map (lapsed q.moment q.reservations) o)) (sym lost)

pub some-is : {X : Type 0} (x y : X) → Some x ≡ Some y → x ≡ y
some-is x y e = cc
