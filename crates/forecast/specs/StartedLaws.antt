-- Laws of the first started job from a number on.
use Rattle.std.proofs.Common.{◌≡◌, ◌≢◌, ℕ, ◌+◌, ◌<◌, ◌≤◌, Bool, true, false, cond, eqb, leb, not, ◌&&◌, List, [], ◌∷◌, Option, Some, None, refl, sym, ◌∙◌, ap, subst, arith}
use Rattle.std.specs.Prelude.{find}
use Rattle.std.specs.List.{AllByRecursion}
use Rattle.std.specs.Option.{option_map, option_map_or}
use Rattle.std.proofs.lemmas.Bool.{and_parts, and_from, and_right, leb-true, leb-false, eq-eqb, eqb-true, eqb-false}
use Rattle.drmaa_types.specs.States.{is_started}
use Rattle.drmaa_types.specs.declared.identifiers.JobId.{JobId}
use Rattle.drmaa_types.specs.declared.states.Exit.TheVariants.{Code}
use Rattle.drmaa_model.specs.declared.calls.Call.TheVariants as call
use Rattle.drmaa_model.specs.declared.courses.Phase.{Phase}
use Rattle.drmaa_model.specs.declared.courses.Phase.TheVariants.{Idle, Launching, Alive}
use Rattle.drmaa_model.specs.declared.replies.Reply.{Reply}
use Rattle.drmaa_model.specs.declared.replies.Reply.TheVariants as reply
use Rattle.drmaa_model.specs.declared.rows.Row.{Row}
use Rattle.drmaa_model.specs.declared.rows.Started.{Started}
use Rattle.drmaa_model.specs.AnswerLaws.{served-gives}
use Rattle.drmaa_model.specs.Courses.{is_asked}
use Rattle.drmaa_model.specs.Effects.{gives}
use Rattle.drmaa_model.specs.Events.{is_started_from, started_from, started_of}
use Rattle.drmaa_model.specs.Fit.{IsFit, IsSound, IsRising, number_of}
use Rattle.drmaa_model.specs.Plan.{Plan}
use Rattle.drmaa_model.specs.Refusals.{refusal}
use Rattle.drmaa_model.specs.Reporting.{is_idle, may_exit, end_row}
use Rattle.drmaa_model.specs.ReportLaws.{report-free}
use Rattle.drmaa_model.specs.RowLaws.{all-implied, all-both, rising-found}
use Rattle.drmaa_model.specs.Rows.{row_of}
use Rattle.drmaa_model.specs.Steps.{answer_now}
use Rattle.drmaa_model.specs.World.{World}
use Rattle.forecast_laws.specs.Forecasts.{is_ending, NoneEnds, was_asked}
use Rattle.forecast_laws.specs.ForeseenLaws.{NoneEndsBelow, same-job}

-- ---- lists

find-all : {X : Type 0} (P : X → Type 0) (t : X → Bool) (xs : List X) (x : X) → AllByRecursion P xs → find t xs ≡ Some x → P x × (t x ≡ true)
find-all P t [] x all found = absurd (cc)
find-all {X} P t (y ∷ ys) x all found =
    (elim (t y) as (λ b. t y ≡ b → cond b (Some y) (find t ys) ≡ Some x → P x × (t x ≡ true)) [
      | true ↦ λ e same. (let is : y ≡ x = cc in (subst P is all.0, subst (λ (z : X). t z ≡ true) is e))
      | false ↦ λ e same. find-all P t ys x all.1 same
    ]) refl found

find-none : {X : Type 0} (t : X → Bool) (xs : List X) → find t xs ≡ None → AllByRecursion (λ x. t x ≡ false) xs
find-none t [] none = tt
find-none t (x ∷ xs) none =
    (elim (t x) as (λ b. t x ≡ b → cond b (Some x) (find t xs) ≡ None → AllByRecursion (λ y. t y ≡ false) (x ∷ xs)) [
      | true ↦ λ e same. absurd (cc)
      | false ↦ λ e same. (e, find-none t xs same)
    ]) refl none

-- ---- the jobs before it

-- a job that is not started, or of a lesser number, is to end only where its number is below
not-from : (from : ℕ) (r : Row) → is_started_from from r ≡ false → (r.job.0 < from → is_ending r ≡ false) → is_ending r ≡ false
not-from from r apart below =
    (elim (is_started r.course.state) as (λ b. is_started r.course.state ≡ b → (b && leb from r.job.0) ≡ false → (b && is_asked r.course.kill) ≡ false) [
      | true ↦ λ e h. sym (ap (λ b. b && is_asked r.course.kill) e) ∙ below (leb-false from r.job.0 h)
      | false ↦ λ e h. refl
    ]) refl apart

-- up to the first started job from a number on none is to end, where none below the number is
none-up_to : (from : ℕ) (rows : List Row) (row : Row) → IsRising number_of rows → NoneEndsBelow from rows → started_from from rows ≡ Some row → NoneEndsBelow row.job.0 rows
none-up_to from [] row rising none found = tt
none-up_to from (r ∷ rows) row rising none found =
    (elim (is_started_from from r) as (λ b. is_started_from from r ≡ b → cond b (Some r) (started_from from rows) ≡ Some row → NoneEndsBelow row.job.0 (r ∷ rows)) [
      | true ↦ λ e same.
          (let is : r ≡ row = cc in
          let number : r.job.0 ≡ row.job.0 = ap (λ (x : Row). x.job.0) is in
          ((λ low. absurd (omega (arith, low, number))), all-implied (λ (s : Row). number_of r < number_of s) (λ (s : Row). s.job.0 < row.job.0 → is_ending s ≡ false) (λ s above low. absurd (omega (arith, above, low, number))) rows rising.0))
      | false ↦ λ e same. ((λ low. not-from from r e none.0), none-up_to from rows row rising.1 none.1 same)
    ]) refl found

-- where there is none, none is to end
pub none-started : (from : ℕ) (rows : List Row) → NoneEndsBelow from rows → None ≡ option_map started_of (started_from from rows) → NoneEnds rows
none-started from rows none absent =
    all-implied (λ (r : Row). (is_started_from from r ≡ false) × (r.job.0 < from → is_ending r ≡ false)) (λ (r : Row). is_ending r ≡ false) (λ r h. not-from from r h.0 h.1) rows
    (all-both (λ (r : Row). is_started_from from r ≡ false) (λ (r : Row). r.job.0 < from → is_ending r ≡ false) rows
    (find-none (is_started_from from) rows (unmapped (started_from from rows) absent)) none) where
      unmapped : (o : Option Row) → None ≡ option_map started_of o → o ≡ None
      unmapped None same = refl
      unmapped (Some row) same = absurd (cc)

-- ---- what is known of it

pub record IsFirstStarted (from : ℕ) (p : Plan) (found : Started) : Type 0 where
  pub row : Row
  pub kept : row_of found.job p.rows ≡ Some row
  pub attempt : row.course.attempt ≡ found.attempt
  pub asked : is_asked row.course.kill ≡ found.asked
  pub busy : is_idle row.course.phase ≡ false
  pub low : from ≤ found.job.0
  pub below : found.job.0 < p.next_job
  pub before : NoneEndsBelow from p.rows → NoneEndsBelow found.job.0 p.rows

not-idle : (phase : Phase) → phase ≢ Idle → is_idle phase ≡ false
not-idle Idle other = absurd (other refl)
not-idle Launching other = refl
not-idle Alive other = refl

first-row : (from : ℕ) (p : Plan) (row : Row) → IsFit p → started_from from p.rows ≡ Some row → IsFirstStarted from p (started_of row)
first-row from p row fit found =
    let all = find-all (λ (r : Row). ((row_of r.job p.rows ≡ Some r) × (number_of r < p.next_job)) × IsSound r.wants r.course) (is_started_from from) p.rows row
    (all-both (λ (r : Row). (row_of r.job p.rows ≡ Some r) × (number_of r < p.next_job)) (λ (r : Row). IsSound r.wants r.course) p.rows
    (all-both (λ (r : Row). row_of r.job p.rows ≡ Some r) (λ (r : Row). number_of r < p.next_job) p.rows (rising-found p.rows fit.jobs.rising) fit.jobs.below) fit.sound) found in
    let parts = and_parts (is_started row.course.state) (leb from row.job.0) all.1 in
    record {
      row = row;
      kept = all.0.0.0;
      attempt = refl;
      asked = refl;
      busy = not-idle row.course.phase (all.0.1.started parts.0).0;
      low = leb-true from row.job.0 parts.1;
      below = all.0.0.1;
      before = λ none. none-up_to from p.rows row fit.jobs.rising none found;
    }

pub first-started : (from : ℕ) (p : Plan) (found : Started) → IsFit p → Some found ≡ option_map started_of (started_from from p.rows) → IsFirstStarted from p found
first-started from p found fit same =
    (elim (started_from from p.rows) as (λ o. started_from from p.rows ≡ o → Some found ≡ option_map started_of o → IsFirstStarted from p found) [
      | None ↦ λ e is. absurd (cc)
      | Some row ↦ λ e is. subst (IsFirstStarted from p) (sym (some-is found (started_of row) is)) (first-row from p row fit e)
    ]) refl same where
      some-is : (a b : Started) → Some a ≡ Some b → a ≡ b
      some-is a b same = cc

-- ---- its end

-- a kill of it was asked where that is told
pub found-asked : (from : ℕ) (p : Plan) (found : Started) → IsFirstStarted from p found → found.asked ≡ true → was_asked found.job p.rows ≡ true
found-asked from p found first asked = ap (λ (o : Option Row). option_map_or (λ (r : Row). is_asked r.course.kill) o false) first.kept ∙ first.asked ∙ asked

-- the end is not refused
pub end-free : (from : ℕ) (v : World) (found : Started) → IsFirstStarted from v.plan found → refusal v (call.Exited found.job found.attempt (Code 0)) ≡ None
end-free from v found first =
    report-free (λ p. may_exit found.attempt) found.job (end_row (Code 0)) v.plan first.row first.kept
    (and_from (not (is_idle first.row.course.phase)) (eqb first.row.course.attempt found.attempt) (ap not first.busy) (eq-eqb first.row.course.attempt found.attempt first.attempt))

-- nor is it answered anything but ok
pub end-unit : (from at : ℕ) (v next : World) (found : Started) (told : Reply) → IsFirstStarted from v.plan found → answer_now at v (call.Exited found.job found.attempt (Code 0)) ≡ gives told next → told ≡ reply.Unit
end-unit from at v next found told first answered =
    reply-of told next _ (sym answered ∙ served-gives at v (call.Exited found.job found.attempt (Code 0)) (end-free from v found first)) where
      reply-of : (r : Reply) (a b : World) → gives r a ≡ gives reply.Unit b → r ≡ reply.Unit
      reply-of r a b same = cc

-- one that goes on is not to end
pub none-passed : (from : ℕ) (p : Plan) (found : Started) → IsFit p → IsFirstStarted from p found → found.asked ≡ false → NoneEndsBelow from p.rows → NoneEndsBelow (found.job.0 + 1) p.rows
none-passed from p found fit first unasked none =
    all-implied (λ (r : Row). (r.job.0 < found.job.0 → is_ending r ≡ false) × (row_of r.job p.rows ≡ Some r)) (λ (r : Row). r.job.0 < found.job.0 + 1 → is_ending r ≡ false)
    (λ r both low. (elim (eqb r.job.0 found.job.0) as (λ b. eqb r.job.0 found.job.0 ≡ b → is_ending r ≡ false) [
      | true ↦ λ e.
          (let same : r ≡ first.row = row-is r first.row (sym both.1 ∙ ap (λ (j : JobId). row_of j p.rows) (same-job r.job found.job (eqb-true r.job.0 found.job.0 e)) ∙ first.kept) in
          and_right (is_started r.course.state) (is_asked r.course.kill) (ap (λ (x : Row). is_asked x.course.kill) same ∙ first.asked ∙ unasked))
      | false ↦ λ e. both.0 (below r.job.0 found.job.0 low (eqb-false r.job.0 found.job.0 e))
    ]) refl) p.rows
    (all-both (λ (r : Row). r.job.0 < found.job.0 → is_ending r ≡ false) (λ (r : Row). row_of r.job p.rows ≡ Some r) p.rows (first.before none) (rising-found p.rows fit.jobs.rising)) where
      row-is : (a b : Row) → Some a ≡ Some b → a ≡ b
      row-is a b same = cc

      below : (a b : ℕ) → a < b + 1 → a ≢ b → a < b
      below a b low apart = omega (arith, low, apart)
