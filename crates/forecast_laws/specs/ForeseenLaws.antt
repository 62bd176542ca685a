-- What an entry of a forecast does: an end and a launch move one job, and leave each other job that is to end so.
use Rattle.std.proofs.Common.{◌≡◌, ◌≢◌, ℕ, ◌+◌, ◌<◌, Bool, true, false, cond, eqb, not, ◌&&◌, ◌||◌, List, map, Option, Some, None, refl, sym, ◌∙◌, ap, subst, arith}
use Rattle.std.specs.List.{AllByRecursion}
use Rattle.std.specs.Option.{option_map, option_map_or}
use Rattle.std.proofs.lemmas.Bool.{and_parts, and_from, and_left, eqb-true, eqb-false, false≢true}
use Rattle.drmaa_types.specs.States.{is_started}
use Rattle.drmaa_types.specs.declared.identifiers.JobId.{JobId}
use Rattle.drmaa_types.specs.declared.refusals.Refusal.{Refusal}
use Rattle.drmaa_types.specs.declared.states.Exit.{Exit}
use Rattle.drmaa_types.specs.declared.states.Exit.TheVariants.{Code}
use Rattle.drmaa_types.specs.declared.states.Note.TheVariants as note
use Rattle.drmaa_model.specs.declared.calls.Call.{Call}
use Rattle.drmaa_model.specs.declared.calls.Call.TheVariants as call
use Rattle.drmaa_model.specs.declared.calls.Report.TheVariants as report
use Rattle.drmaa_model.specs.declared.courses.Course.{Course}
use Rattle.drmaa_model.specs.declared.courses.Kill.{Kill}
use Rattle.drmaa_model.specs.declared.courses.Kill.TheVariants as kill
use Rattle.drmaa_model.specs.declared.entries.Entry.{Entry}
use Rattle.drmaa_model.specs.declared.replies.Reply.{Reply}
use Rattle.drmaa_model.specs.declared.replies.Reply.TheVariants as reply
use Rattle.drmaa_model.specs.declared.reservations.Accepted.{Accepted}
use Rattle.drmaa_model.specs.declared.rows.Row.{Row}
use Rattle.drmaa_model.specs.AnswerLaws.{answer-cases, given-world}
use Rattle.drmaa_model.specs.Consistent.{IsConsistent}
use Rattle.drmaa_model.specs.Courses.{failed, called, exited, launched, planned_end, is_asked, is_unasked}
use Rattle.drmaa_model.specs.Effects.{StepAnswer, gives, makes}
use Rattle.drmaa_model.specs.Fit.{IsFit, IsSound}
use Rattle.drmaa_model.specs.Moving.{MovesOne}
use Rattle.drmaa_model.specs.MoveLaws.{others-stay, report-moves}
use Rattle.drmaa_model.specs.NextLaunchLaws.{next_launch-is}
use Rattle.drmaa_model.specs.Plan.{Plan}
use Rattle.drmaa_model.specs.Reporting.{is_idle, may_exit, end_row, report_of}
use Rattle.drmaa_model.specs.ReportLaws.{report-finds, exited-stops, may_exit-busy, not_idle-started}
use Rattle.drmaa_model.specs.RowLaws.{all-implied, all-map, row_of-all}
use Rattle.drmaa_model.specs.Rows.{is_of, row_of, with_course}
use Rattle.drmaa_model.specs.StepLaws.{advance-consistent}
use Rattle.drmaa_model.specs.Steps.{answer, answer_now, IsStep}
use Rattle.drmaa_model.specs.Time.{come_to, let_go, is_late, is_over, is_stranded, lapsed, called_in, advance_plan, advance}
use Rattle.drmaa_model.specs.TimeLaws.{timed, row_of-advance, started-waits}
use Rattle.drmaa_model.specs.WaitLaws.{HandsOut, launch-hands_out}
use Rattle.drmaa_model.specs.World.{World, counted}
use Rattle.forecast_laws.specs.Forecasts.{is_ending, NoneEnds, IsForeseen, ends, launches, was_asked}

-- ---- a job that is to end

-- the job is started, and a kill of it was asked
abbrev pub is_ending_in : JobId → List Row → Bool
is_ending_in job rows = option_map_or is_ending (row_of job rows) false

-- where none is to end, it is not
pub none-of : (job : JobId) (rows : List Row) → NoneEnds rows → is_ending_in job rows ≡ false
none-of job rows none =
    (elim (row_of job rows) as (λ o. row_of job rows ≡ o → option_map_or is_ending o false ≡ false) [
      | None ↦ λ e. refl
      | Some r ↦ λ e. row_of-all (λ (row : Row). is_ending row ≡ false) job rows r none e
    ]) refl

asked-not_unasked : (k : Kill) → is_asked k ≡ true → is_unasked k ≡ false
asked-not_unasked kill.No h = absurd (cc)
asked-not_unasked kill.Asked h = refl
asked-not_unasked kill.Failed h = refl

-- time leaves it as it is
timed-ending : (m : ℕ) (rs : List Accepted) (r : Row) → is_ending r ≡ true → timed m rs r ≡ r
timed-ending m rs r h =
    let parts = and_parts (is_started r.course.state) (is_asked r.course.kill) h in
    let stays : lapsed m rs r ≡ r =
    ap (λ b. cond (b && (is_late m r || is_stranded rs r)) (record r { course = failed m (cond (is_late m r) note.PastDeadline note.ReservationGone) r.course }) r) (started-waits r.course.state parts.0) in
    ap (called_in m rs) stays
    ∙ ap (λ b. cond (b && (is_unasked r.course.kill && (is_over m r || is_stranded rs r))) (record r { course = called (cond (is_over m r) note.PastLimit note.ReservationGone) r.course }) r) parts.0
    ∙ ap (λ b. cond (b && (is_over m r || is_stranded rs r)) (record r { course = called (cond (is_over m r) note.PastLimit note.ReservationGone) r.course }) r) (asked-not_unasked r.course.kill parts.1)

pub ending-advance : (entry at : ℕ) (p : Plan) (job : JobId) → is_ending_in job p.rows ≡ true → is_ending_in job (advance_plan entry at p).rows ≡ true
ending-advance entry at p job =
    let q = let_go (come_to at p) in
    subst (λ (o : Option Row). is_ending_in job p.rows ≡ true → option_map_or is_ending o false ≡ true) (sym (row_of-advance entry at p job))
    (elim (row_of job p.rows) as (λ o. option_map_or is_ending o false ≡ true → option_map_or is_ending (option_map (called_in q.moment q.reservations) (option_map (lapsed q.moment q.reservations) o)) false ≡ true) [
      | None ↦ λ h. h
      | Some r ↦ λ h. ap is_ending (timed-ending q.moment q.reservations r h) ∙ h
    ])

-- ---- an end

pub same-job : (a b : JobId) → a.0 ≡ b.0 → a ≡ b
same-job a b same = ap (λ (n : ℕ). let j : JobId = record { 0 = n } in j) same

-- an end that is accepted moves the job that it is of, which was started
pub record Ends (v next : World) (job : JobId) (attempt : ℕ) (exit : Exit) : Type 0 where
  pub row : Row
  pub number : row.job ≡ job
  pub attempt_is : row.course.attempt ≡ attempt
  pub started : is_started row.course.state ≡ true
  pub moves : MovesOne v.plan next.plan row (exited v.plan.moment exit row.wants.rerunnable row.course)

not-refused : (why : Refusal) (v next : World) → makes (reply.Refused why) v ≡ gives reply.Unit next → ⊥
not-refused why v next same = cc

some-is : (a b : Row) → Some a ≡ Some b → a ≡ b
some-is a b same = cc

pub exit-ends : (v : World) (at : ℕ) (job : JobId) (attempt : ℕ) (exit : Exit) (next : World) → IsFit v.plan
    → answer_now at v (call.Exited job attempt exit) ≡ gives reply.Unit next → Ends v next job attempt exit
exit-ends v at job attempt exit next fit =
    answer-cases at v (call.Exited job attempt exit) (λ (a : StepAnswer). a ≡ gives reply.Unit next → Ends v next job attempt exit)
    (λ why refused same. absurd (not-refused why v next same))
    (λ free same.
    (let moved = report-moves (report.Exited job attempt exit) (v.entries + 1) v.plan fit free in
    let finds = report-finds (λ p. may_exit attempt) job (end_row exit) v.plan free in
    let after : counted (record v { plan = (report_of (report.Exited job attempt exit)).effect (v.entries + 1) v.plan }) ≡ next =
    given-world reply.Unit reply.Unit (counted (record v { plan = (report_of (report.Exited job attempt exit)).effect (v.entries + 1) v.plan })) next same in
    let same_row : finds.0 ≡ moved.row = some-is finds.0 moved.row (sym finds.1 ∙ ap (λ (j : JobId). row_of j v.plan.rows) (sym moved.number) ∙ moved.moves.found) in
    let may : may_exit attempt moved.row.course ≡ true = subst (λ (r : Row). may_exit attempt r.course ≡ true) same_row finds.2 in
    let sound = row_of-all (λ (r : Row). IsSound r.wants r.course) moved.row.job v.plan.rows moved.row fit.sound moved.moves.found in
    record {
      row = moved.row;
      number = moved.number;
      attempt_is = eqb-true moved.row.course.attempt attempt (and_parts (not (is_idle moved.row.course.phase)) (eqb moved.row.course.attempt attempt) may).1;
      started = not_idle-started moved.row.wants moved.row.course sound (may_exit-busy attempt moved.row.course may);
      moves = subst (λ (w : World). MovesOne v.plan w.plan moved.row (exited v.plan.moment exit moved.row.wants.rerunnable moved.row.course)) after moved.moves;
    }))

-- ---- a launch

-- a launch moves a job that was not started
pub record Launches (v next : World) (row : Row) (slots : ℕ) : Type 0 where
  pub moves : MovesOne v.plan next.plan row (launched v.plan.moment slots (planned_end row.wants v.plan.moment) row.course)
  pub idle : is_started row.course.state ≡ false
  pub spared : row.course.kill ≡ kill.No

pub launch-moves : (v : World) (r : Reply) (next : World) → IsFit v.plan → (out : HandsOut v r next) → Launches v next out.row out.slots
launch-moves v r next fit out =
    let is = next_launch-is v.plan (out.row, out.slots) fit.jobs.rising out.first in
    let sound = row_of-all (λ (r : Row). IsSound r.wants r.course) out.row.job v.plan.rows out.row fit.sound is.kept in
    record {
      moves = record {
        found = is.kept;
        rows = ap (λ (w : World). w.plan.rows) out.world;
        reservations = ap (λ (w : World). w.plan.reservations) out.world;
        moment = ap (λ (w : World). w.plan.moment) out.world;
      };
      idle = is.state.idle;
      spared = sound.spared is.state.waits;
    }

-- ---- a foreseen step

-- the entry reports the end of this job
abbrev pub IsEndOf : JobId → Entry → Type 0
IsEndOf job entry = (attempt : ℕ) × (exit : Exit) × (entry.call ≡ call.Exited job attempt exit)

pub answer-of : (w : World) (entry : Entry) (next : World) (c : Call) → IsStep w entry next → entry.call ≡ c → answer w entry.at c ≡ gives entry.reply next
answer-of w entry next c step same = subst (λ (k : Call). answer w entry.at k ≡ gives entry.reply next) same step.answered

pub exit-of : (w : World) (entry : Entry) (next : World) (job : JobId) (attempt : ℕ) → IsConsistent w → IsStep w entry next → entry.call ≡ call.Exited job attempt (Code 0) → entry.reply ≡ reply.Unit
    → Ends (advance w entry.at) next job attempt (Code 0)
exit-of w entry next job attempt ok step same told =
    exit-ends (advance w entry.at) entry.at job attempt (Code 0) next (advance-consistent w entry.at ok).fit
    (subst (λ (r : Reply). answer w entry.at (call.Exited job attempt (Code 0)) ≡ gives r next) told (answer-of w entry next (call.Exited job attempt (Code 0)) step same))

pub launch-of : (w : World) (entry : Entry) (next : World) → IsStep w entry next → entry.call ≡ call.TakeLaunch → HandsOut (advance w entry.at) entry.reply next
launch-of w entry next step same = launch-hands_out (advance w entry.at) entry.at entry.reply next (answer-of w entry next call.TakeLaunch step same)

-- a job that is to end is to end still, after a step that is not its own end
pub step-ending : (w : World) (entry : Entry) (next : World) (job : JobId) → IsConsistent w → IsStep w entry next → IsForeseen w entry → (IsEndOf job entry → ⊥)
    → is_ending_in job (advance w entry.at).plan.rows ≡ true → is_ending_in job next.plan.rows ≡ true
step-ending w entry next job ok step (ends k attempt same told asked) other is =
    let end = exit-of w entry next k attempt ok step same told in
    let apart : end.row.job.0 ≢ job.0 = λ number. other (attempt, Code 0, same ∙ ap (λ (j : JobId). call.Exited j attempt (Code 0)) (sym end.number ∙ same-job end.row.job job number)) in
    ap (λ (o : Option Row). option_map_or is_ending o false) (others-stay (advance w entry.at).plan next.plan end.row _ job end.moves apart) ∙ is
step-ending w entry next job ok step (launches same) other is =
    let v = advance w entry.at in
    let out = launch-of w entry next step same in
    let moved = launch-moves v entry.reply next (advance-consistent w entry.at ok).fit out in
    let apart : out.row.job.0 ≢ job.0 = λ number.
    (let found : row_of job v.plan.rows ≡ Some out.row = ap (λ (j : JobId). row_of j v.plan.rows) (sym (same-job out.row.job job number)) ∙ moved.moves.found in
    let ending : is_ending out.row ≡ true = sym (ap (λ (o : Option Row). option_map_or is_ending o false) found) ∙ is in
    false≢true (sym moved.idle ∙ (and_parts (is_started out.row.course.state) (is_asked out.row.course.kill) ending).0)) in
    ap (λ (o : Option Row). option_map_or is_ending o false) (others-stay v.plan next.plan out.row _ job moved.moves apart) ∙ is

-- a job whose end is foreseen is to end
pub end-ending : (w : World) (entry : Entry) (next : World) (job : JobId) (attempt : ℕ) → IsConsistent w → IsStep w entry next → entry.call ≡ call.Exited job attempt (Code 0) → entry.reply ≡ reply.Unit
    → was_asked job (advance w entry.at).plan.rows ≡ true → is_ending_in job (advance w entry.at).plan.rows ≡ true
end-ending w entry next job attempt ok step same told asked =
    let v = advance w entry.at in
    let end = exit-of w entry next job attempt ok step same told in
    let found : row_of job v.plan.rows ≡ Some end.row = ap (λ (j : JobId). row_of j v.plan.rows) (sym end.number) ∙ end.moves.found in
    let kill_is : is_asked end.row.course.kill ≡ true = sym (ap (λ (o : Option Row). option_map_or (λ (r : Row). is_asked r.course.kill) o false) found) ∙ asked in
    ap (λ (o : Option Row). option_map_or is_ending o false) found ∙ and_from (is_started end.row.course.state) (is_asked end.row.course.kill) end.started kill_is

-- ---- what is left to end

-- no job of a number below this one is to end
abbrev pub NoneEndsBelow : ℕ → List Row → Type 0
NoneEndsBelow number rows = AllByRecursion (λ (row : Row). row.job.0 < number → is_ending row ≡ false) rows

-- what is true of each row, but for the one that goes on, is true of each then
all-others : (P : Row → Type 0) (job : JobId) (course : Course) (rows : List Row) → ((r : Row) → P (record r { course = course })) → AllByRecursion (λ (r : Row). r.job.0 ≢ job.0 → P r) rows
    → AllByRecursion P (map (with_course job course) rows)
all-others P job course rows own others =
    all-map P (with_course job course) rows
    (all-implied (λ (r : Row). r.job.0 ≢ job.0 → P r) (λ (r : Row). P (with_course job course r))
    (λ r other. (elim (is_of job r) as (λ b. is_of job r ≡ b → P (cond b (record r { course = course }) r)) [
      | true ↦ λ e. own r
      | false ↦ λ e. other (eqb-false r.job.0 job.0 e)
    ]) refl) rows others)

-- the end of a job leaves one job less that is to end
pub end-clears : (v next : World) (job : JobId) (attempt : ℕ) (exit : Exit) → Ends v next job attempt exit → NoneEndsBelow job.0 v.plan.rows → NoneEndsBelow (job.0 + 1) next.plan.rows
end-clears v next job attempt exit end none =
    let number : end.row.job.0 ≡ job.0 = ap (λ (j : JobId). j.0) end.number in
    let course = exited v.plan.moment exit end.row.wants.rerunnable end.row.course in
    subst (NoneEndsBelow (job.0 + 1)) (sym end.moves.rows)
    (all-others (λ (r : Row). r.job.0 < job.0 + 1 → is_ending r ≡ false) end.row.job course v.plan.rows
    (λ r low. and_left (is_started course.state) (is_asked course.kill) (exited-stops v.plan.moment exit end.row.wants.rerunnable end.row.course).over.stopped)
    (all-implied (λ (r : Row). r.job.0 < job.0 → is_ending r ≡ false) (λ (r : Row). r.job.0 ≢ end.row.job.0 → r.job.0 < job.0 + 1 → is_ending r ≡ false)
    (λ r h apart low. h (below r.job.0 job.0 low (λ same. apart (same ∙ sym number)))) v.plan.rows none)) where
      below : (a b : ℕ) → a < b + 1 → a ≢ b → a < b
      below a b low apart = omega (arith, low, apart)

-- a launch leaves none that is to end
pub launch-clears : (v : World) (r : Reply) (next : World) → IsFit v.plan → HandsOut v r next → NoneEnds v.plan.rows → NoneEnds next.plan.rows
launch-clears v r next fit out none =
    let moved = launch-moves v r next fit out in
    subst NoneEnds (sym moved.moves.rows)
    (all-others (λ (row : Row). is_ending row ≡ false) out.row.job (launched v.plan.moment out.slots (planned_end out.row.wants v.plan.moment) out.row.course) v.plan.rows
    (λ row. ap is_asked moved.spared)
    (all-implied (λ (row : Row). is_ending row ≡ false) (λ (row : Row). row.job.0 ≢ out.row.job.0 → is_ending row ≡ false) (λ row h apart. h) v.plan.rows none))
