-- What a move does to the changes, the room and the weight.
use Rattle.std.proofs.Common.{◌≡◌, ℕ, ◌+◌, ◌≤◌, Bool, true, false, cond, List, [], ◌∷◌, ◌++◌, map, length, sum_by, Option, refl, sym, ◌∙◌, ap, subst, arith, length-append}
use Rattle.drmaa_types.specs.States.{is_state}
use Rattle.drmaa_types.specs.declared.changes.Change.{Change}
use Rattle.drmaa_types.specs.declared.identifiers.JobId.{JobId}
use Rattle.drmaa_model.specs.declared.courses.Course.{Course}
use Rattle.drmaa_model.specs.declared.rows.Row.{Row}
use Rattle.drmaa_model.specs.Fit.{IsFit}
use Rattle.drmaa_model.specs.Plan.{Plan}
use Rattle.drmaa_model.specs.Rows.{change_of, with_course}
use Rattle.drmaa_model.specs.RowLaws.{row_of-is, sum_with_course, changes_with_course, sum-found}
use Rattle.drmaa_model.specs.Size.{room_of, weight}
use Rattle.plan_book.specs.declared.moves.Move.{Move}
use Rattle.plan_book.specs.Book.{IsMove, moved, owes, owes_kill, owed, owed_kills, changed}

module _ (entry : ℕ) (p : Plan) (m : Move) (fit : IsFit p) (is : IsMove p m) where
  after : Row
  after = record is.row { course = m.after }

  job-is : is.row.job ≡ m.job
  job-is = ap (λ (n : ℕ). let j : JobId = record { 0 = n } in j) (row_of-is m.job p.rows is.row is.found)

  change-is : change_of entry is.row (record is.row { course = m.after })
      ≡ cond (is_state m.before.state m.after.state) [] (record { entry = entry; job = m.job; home = m.home; from = m.before.state; to = m.after.state } ∷ [])
  change-is =
      let made : JobId → Option ℕ → Course → List Change = λ j h c. cond (is_state c.state m.after.state) [] (record { entry = entry; job = j; home = h; from = c.state; to = m.after.state } ∷ []) in
      ap (λ j. made j is.row.home is.row.course) job-is ∙ ap (λ h. made m.job h is.row.course) (sym is.home) ∙ ap (λ c. made m.job m.home c) (sym is.before)

  pub moved-changes : (moved entry m p).changes
      ≡ p.changes ++ cond (is_state m.before.state m.after.state) [] (record { entry = entry; job = m.job; home = m.home; from = m.before.state; to = m.after.state } ∷ [])
  moved-changes = ap (λ (cs : List Change). p.changes ++ cs) (changes_with_course m.job m.after entry p.rows is.row fit.jobs.rising is.found ∙ change-is)

  length-cond : (b : Bool) (c : Change) → length (cond b [] (c ∷ [])) ≡ cond b 0 1
  length-cond true c = refl
  length-cond false c = refl

  pub moved-sum : (f : Course → ℕ) → sum_by (λ (r : Row). f r.course) (map (with_course m.job m.after) p.rows) + f m.before ≡ sum_by (λ (r : Row). f r.course) p.rows + f m.after
  moved-sum f =
      subst (λ (c : Course). sum_by (λ (r : Row). f r.course) (map (with_course m.job m.after) p.rows) + f c ≡ sum_by (λ (r : Row). f r.course) p.rows + f m.after) (sym is.before)
      (sum_with_course m.job m.after (λ (r : Row). f r.course) p.rows is.row fit.jobs.rising is.found)

  pub part-of : (f : Course → ℕ) → f m.before ≤ sum_by (λ (r : Row). f r.course) p.rows
  part-of f = subst (λ (c : Course). f c ≤ sum_by (λ (r : Row). f r.course) p.rows) (sym is.before) (sum-found (λ (r : Row). f r.course) m.job p.rows is.row is.found)

  pub moved-owed : owed (moved entry m p).rows + owes m.before ≡ owed p.rows + owes m.after
  moved-owed = moved-sum owes

  pub moved-owed_kills : owed_kills (moved entry m p).rows + owes_kill m.before ≡ owed_kills p.rows + owes_kill m.after
  moved-owed_kills = moved-sum owes_kill

  pub moved-weight : weight (moved entry m p) + room_of m.before ≡ weight p + room_of m.after + changed m
  moved-weight =
      let change : Change = record { entry = entry; job = m.job; home = m.home; from = m.before.state; to = m.after.state } in
      let added = length-append p.changes (cond (is_state m.before.state m.after.state) [] (change ∷ [])) in
      omega (arith, ap (λ (cs : List Change). length cs) moved-changes, added, length-cond (is_state m.before.state m.after.state) change, moved-sum room_of)
