-- Laws of runs, second half: each launch of a job is new, and a report that is accepted is of the last launch.
use Rattle.std.proofs.Common.{◌≡◌, ℕ, ◌+◌, ◌<◌, ◌≤◌, Bool, true, false, cond, eqb, ◌||◌, ◌⊎◌, inl, inr, ◌++◌, List, [], ◌∷◌, filter, Option, Some, None, refl, sym, ◌∙◌, ap, subst, arith}
use Rattle.std.specs.List.{AllByRecursion, list_any}
use Rattle.std.proofs.lemmas.Bool.{and_parts, and_from, eqb-true, eq-eqb, false≢true}
use Rattle.drmaa_model.specs.declared.calls.Call.TheVariants as call
use Rattle.drmaa_model.specs.declared.courses.Course.{Course}
use Rattle.drmaa_model.specs.declared.entries.Entry.{Entry}
use Rattle.drmaa_model.specs.declared.replies.Launch.{Launch}
use Rattle.drmaa_model.specs.declared.replies.Reply.{Reply}
use Rattle.drmaa_model.specs.declared.replies.Reply.TheVariants as reply
use Rattle.drmaa_model.specs.declared.rows.Row.{Row}
use Rattle.drmaa_model.specs.AnswerLaws.{reply-kind, launch-of-launch}
use Rattle.drmaa_model.specs.Courses.{launched, planned_end}
use Rattle.drmaa_model.specs.Effects.{gives}
use Rattle.drmaa_model.specs.Launching.{launch_of, launch_row}
use Rattle.drmaa_model.specs.NextLaunch.{is_ready, slots_for, best_of, next_launch}
use Rattle.drmaa_model.specs.NextLaunchLaws.{best_of-all}
use Rattle.drmaa_model.specs.ReplyKinds.{IsReplyOf}
use Rattle.std.specs.Option.{option_map, option_map_or}
use Rattle.drmaa_model.specs.Plan.{Plan}
use Rattle.drmaa_model.specs.Reporting.{is_idle}
use Rattle.drmaa_model.specs.RowLaws.{all-filter, all-implied, all-map}
use Rattle.drmaa_model.specs.Rows.{is_of, with_course}
use Rattle.drmaa_model.specs.Runs.{hands_out, is_launched}
use Rattle.drmaa_model.specs.RunLaws.{Follows, answer-keeps, advance-tracked}
use Rattle.drmaa_model.specs.Steps.{answer, IsStep}
use Rattle.drmaa_model.specs.Time.{advance}
use Rattle.drmaa_model.specs.WaitLaws.{HandsOut, launch-hands_out}
use Rattle.drmaa_model.specs.World.{World, counted}

-- ---- what has been handed out

any-push : (test : Entry → Bool) (xs : List Entry) (x : Entry) → list_any test (xs ++ x ∷ []) ≡ (list_any test xs || test x)
any-push test [] x = elim (test x) as (λ b. (b || false) ≡ b) [ true ↦ refl | false ↦ refl ]
any-push test (y ∷ ys) x =
    ap (λ b. test y || b) (any-push test ys x)
    ∙ (elim (test y) as (λ b. (b || (list_any test ys || test x)) ≡ ((b || list_any test ys) || test x)) [ true ↦ refl | false ↦ refl ])

-- a job has run as often as its course says: its last launch was handed out, and none after it
pub record HasRun (history : List Entry) (job : ℕ) (course : Course) : Type 0 where
  pub idle : is_idle course.phase ≡ false → 1 ≤ course.attempt
  pub last : 1 ≤ course.attempt → is_launched history job course.attempt ≡ true
  pub most : (k : ℕ) → is_launched history job k ≡ true → k ≤ course.attempt

-- each job that was launched has a number below the next
pub record HasRuns (history : List Entry) (w : World) : Type 0 where
  pub rows : AllByRecursion (λ (r : Row). HasRun history r.job.0 r.course) w.plan.rows
  pub below : (job k : ℕ) → is_launched history job k ≡ true → job < w.plan.next_job

pub run-follows : (history : List Entry) (j : ℕ) (c d : Course) → Follows c d → HasRun history j c → HasRun history j d
run-follows history j c d follows run = record {
  idle = λ e. subst (λ n. 1 ≤ n) (sym follows.attempt) (run.idle (follows.idle e));
  last = λ some. subst (λ n. is_launched history j n ≡ true) (sym follows.attempt) (run.last (subst (λ n. 1 ≤ n) follows.attempt some));
  most = λ k e. subst (λ n. k ≤ n) (sym follows.attempt) (run.most k e);
}

run-fresh : (history : List Entry) (next : ℕ) → ((job k : ℕ) → is_launched history job k ≡ true → job < next)
    → (n : ℕ) (c : Course) → next ≤ n → c.attempt ≡ 0 → is_idle c.phase ≡ true → HasRun history n c
run-fresh history next below n c above zero idle = record {
  idle = λ e. absurd (false≢true (sym e ∙ idle));
  last = λ some. absurd (let low : 1 ≤ 0 = subst (λ m. 1 ≤ m) zero some in omega (arith, low));
  most = λ k e. absurd (let low = below n k e in omega (arith, low, above));
}

-- an entry that hands out no launch leaves what has been handed out
quiet-entry : (history : List Entry) (entry : Entry) → ((job k : ℕ) → hands_out job k entry.reply ≡ false) → (job k : ℕ) → is_launched (history ++ entry ∷ []) job k ≡ is_launched history job k
quiet-entry history entry quiet job k =
    any-push (λ (e : Entry). hands_out job k e.reply) history entry ∙ ap (λ b. is_launched history job k || b) (quiet job k)
    ∙ (elim (is_launched history job k) as (λ b. (b || false) ≡ b) [ true ↦ refl | false ↦ refl ])

run-quiet : (history : List Entry) (entry : Entry) → ((job k : ℕ) → hands_out job k entry.reply ≡ false) → (j : ℕ) (c : Course) → HasRun history j c → HasRun (history ++ entry ∷ []) j c
run-quiet history entry quiet j c run = record {
  idle = run.idle;
  last = λ some. quiet-entry history entry quiet j c.attempt ∙ run.last some;
  most = λ k e. run.most k (sym (quiet-entry history entry quiet j k) ∙ e);
}

-- a reply is a launch, or hands out none
pub launch-cases : (P : Type 0) (r : Reply) → ((l : Launch) → r ≡ reply.Launch l → P) → (((job k : ℕ) → hands_out job k r ≡ false) → P) → P
launch-cases P (reply.Launch launch) here there = here launch refl
launch-cases P _ here there = there (λ j k. refl)

-- ---- one step

hands-own : (l : Launch) (job k : ℕ) → hands_out job k (reply.Launch l) ≡ true → (l.job.0 ≡ job) × (l.attempt ≡ k)
hands-own l job k e =
    let parts = and_parts (eqb l.job.0 job) (eqb l.attempt k) e in
    (eqb-true l.job.0 job parts.0, eqb-true l.attempt k parts.1)

-- what an entry more has handed out was handed out before, or is that entry's launch
launched-cases : (history : List Entry) (entry : Entry) (job k : ℕ) → is_launched (history ++ entry ∷ []) job k ≡ true
    → (is_launched history job k ≡ true) ⊎ (hands_out job k entry.reply ≡ true)
launched-cases history entry job k e =
    (elim (is_launched history job k) as (λ b. (b || hands_out job k entry.reply) ≡ true → (b ≡ true) ⊎ (hands_out job k entry.reply ≡ true)) [
      | true ↦ λ h. inl refl
      | false ↦ λ h. inr h
    ]) (sym (any-push (λ (x : Entry). hands_out job k x.reply) history entry) ∙ e)

launched-still : (history : List Entry) (entry : Entry) (job k : ℕ) → is_launched history job k ≡ true → is_launched (history ++ entry ∷ []) job k ≡ true
launched-still history entry job k e = any-push (λ (x : Entry). hands_out job k x.reply) history entry ∙ ap (λ b. b || hands_out job k entry.reply) e

launched-now : (history : List Entry) (entry : Entry) (job k : ℕ) → hands_out job k entry.reply ≡ true → is_launched (history ++ entry ∷ []) job k ≡ true
launched-now history entry job k e =
    any-push (λ (x : Entry). hands_out job k x.reply) history entry ∙ ap (λ b. is_launched history job k || b) e
    ∙ (elim (is_launched history job k) as (λ b. (b || true) ≡ true) [ true ↦ refl | false ↦ refl ])

-- a step that hands out no launch
step-quiet : (history : List Entry) (w : World) (entry : Entry) (next : World) → HasRuns history w → IsStep w entry next
    → ((job k : ℕ) → hands_out job k entry.reply ≡ false) → (entry.call ≡ call.TakeLaunch → ⊥) → HasRuns (history ++ entry ∷ []) next
step-quiet history w entry next runs step quiet other =
    let kept = answer-keeps (HasRun history) (run-follows history) w entry.at (run-fresh history w.plan.next_job runs.below) entry.call other runs.rows entry.reply next step.answered in
    record {
      rows = all-implied (λ (r : Row). HasRun history r.job.0 r.course) (λ (r : Row). HasRun (history ++ entry ∷ []) r.job.0 r.course)
          (λ r h. run-quiet history entry quiet r.job.0 r.course h) next.plan.rows kept.0;
      below = λ job k e. (let low = runs.below job k (sym (quiet-entry history entry quiet job k) ∙ e) in omega (arith, low, kept.1));
    }

-- what is true of each row is true of the one that is launched next
next-all : (P : Row → Type 0) (p : Plan) (row : Row) (slots : ℕ) → AllByRecursion P p.rows → next_launch p ≡ Some (row, slots) → P row
next-all P p row slots all is =
    let ready : Row → Bool = λ r. is_ready p r.wants.min r in
    let pick : Row → Row × ℕ = λ r. (r, slots_for p r) in
    (elim (best_of (filter ready p.rows)) as (λ o. best_of (filter ready p.rows) ≡ o → option_map pick o ≡ Some (row, slots) → P row) [
      | None ↦ λ e h. absurd (cc)
      | Some r ↦ λ e h. (let same : r ≡ row = ap (λ (o : Option (Row × ℕ)). option_map_or (λ (n : Row × ℕ). n.0) o r) h in subst P same (best_of-all P (filter ready p.rows) r (all-filter P ready p.rows all) e))
    ]) refl is

-- a step that hands out a launch: of the job that is launched next, once more than before
module _ (history : List Entry) (w : World) (entry : Entry) (next : World) (runs : HasRuns history w) (low : AllByRecursion (λ (r : Row). r.job.0 < w.plan.next_job) w.plan.rows)
    (out : HandsOut (advance w entry.at) entry.reply next) where
  own-launch : hands_out out.row.job.0 (out.row.course.attempt + 1) entry.reply ≡ true
  own-launch =
      ap (λ (r : Reply). hands_out out.row.job.0 (out.row.course.attempt + 1) r) out.replies
      ∙ and_from (eqb out.row.job.0 out.row.job.0) (eqb (out.row.course.attempt + 1) (out.row.course.attempt + 1)) (eq-eqb out.row.job.0 out.row.job.0 refl) (eq-eqb (out.row.course.attempt + 1) (out.row.course.attempt + 1) refl)

  only-launch : (job k : ℕ) → hands_out job k entry.reply ≡ true → (out.row.job.0 ≡ job) × (out.row.course.attempt + 1 ≡ k)
  only-launch job k e = hands-own (launch_of out.row out.slots) job k (sym (ap (λ (r : Reply). hands_out job k r) out.replies) ∙ e)

  tracked : AllByRecursion (λ (r : Row). HasRun history r.job.0 r.course) (advance w entry.at).plan.rows
  tracked = advance-tracked (HasRun history) (run-follows history) (w.entries + 1) entry.at w.plan runs.rows

  lower : AllByRecursion (λ (r : Row). r.job.0 < w.plan.next_job) (advance w entry.at).plan.rows
  lower = advance-tracked (λ j c. j < w.plan.next_job) (λ j c d f h. h) (w.entries + 1) entry.at w.plan low

  own-run : HasRun history out.row.job.0 out.row.course
  own-run = next-all (λ (r : Row). HasRun history r.job.0 r.course) (advance w entry.at).plan out.row out.slots tracked out.first

  own-low : out.row.job.0 < w.plan.next_job
  own-low = next-all (λ (r : Row). r.job.0 < w.plan.next_job) (advance w entry.at).plan out.row out.slots lower out.first

  -- the launch was not handed out before
  pub launch-new : is_launched history out.row.job.0 (out.row.course.attempt + 1) ≡ false
  launch-new =
      (elim (is_launched history out.row.job.0 (out.row.course.attempt + 1)) as (λ b. is_launched history out.row.job.0 (out.row.course.attempt + 1) ≡ b → b ≡ false) [
        | true ↦ λ e. absurd (let most = own-run.most (out.row.course.attempt + 1) e in omega (arith, most))
        | false ↦ λ e. refl
      ]) refl

  now : Course
  now = launched (advance w entry.at).plan.moment out.slots (planned_end out.row.wants (advance w entry.at).plan.moment) out.row.course

  now-run : HasRun (history ++ entry ∷ []) out.row.job.0 now
  unfolding now
  now-run = record {
    idle = λ e. omega arith;
    last = λ some. launched-now history entry out.row.job.0 (out.row.course.attempt + 1) own-launch;
    most = λ k e. elim (launched-cases history entry out.row.job.0 k e) [
      | inl before ↦ (let most = own-run.most k before in omega (arith, most))
      | inr here ↦ (let same = (only-launch out.row.job.0 k here).1 in omega (arith, same))
    ];
  }

  other-run : (r : Row) → is_of out.row.job r ≡ false → HasRun history r.job.0 r.course → HasRun (history ++ entry ∷ []) r.job.0 r.course
  other-run r other run = record {
    idle = run.idle;
    last = λ some. launched-still history entry r.job.0 r.course.attempt (run.last some);
    most = λ k e. elim (launched-cases history entry r.job.0 k e) [
      | inl before ↦ run.most k before
      | inr here ↦ absurd (false≢true (sym other ∙ eq-eqb r.job.0 out.row.job.0 (sym (only-launch r.job.0 k here).0)))
    ];
  }

  each-run : (r : Row) → HasRun history r.job.0 r.course → HasRun (history ++ entry ∷ []) (with_course out.row.job now r).job.0 (with_course out.row.job now r).course
  each-run r run =
      (elim (is_of out.row.job r) as (λ b. is_of out.row.job r ≡ b → HasRun (history ++ entry ∷ []) (cond b (record r { course = now }) r).job.0 (cond b (record r { course = now }) r).course) [
        | true ↦ λ e. subst (λ n. HasRun (history ++ entry ∷ []) n now) (sym (eqb-true r.job.0 out.row.job.0 e)) now-run
        | false ↦ λ e. other-run r e run
      ]) refl

  after : World
  after = counted (record (advance w entry.at) { plan = launch_row (w.entries + 1) out.row out.slots (advance w entry.at).plan })

  pub step-launch : HasRuns (history ++ entry ∷ []) next
  unfolding now after
  step-launch =
      let then : HasRuns (history ++ entry ∷ []) after = record {
        rows = all-map (λ (r : Row). HasRun (history ++ entry ∷ []) r.job.0 r.course) (with_course out.row.job now) (advance w entry.at).plan.rows
            (all-implied (λ (r : Row). HasRun history r.job.0 r.course) (λ (r : Row). HasRun (history ++ entry ∷ []) (with_course out.row.job now r).job.0 (with_course out.row.job now r).course) each-run (advance w entry.at).plan.rows tracked);
        below = λ job k e. elim (launched-cases history entry job k e) [
          | inl before ↦ runs.below job k before
          | inr here ↦ subst (λ n. n < w.plan.next_job) (only-launch job k here).0 own-low
        ];
      } in
      subst (HasRuns (history ++ entry ∷ [])) (sym out.world) then

-- ---- every legal history

pub step-runs : (history : List Entry) (w : World) (entry : Entry) (next : World) → HasRuns history w → AllByRecursion (λ (r : Row). r.job.0 < w.plan.next_job) w.plan.rows
    → IsStep w entry next → HasRuns (history ++ entry ∷ []) next
step-runs history w entry next runs low step =
    launch-cases (HasRuns (history ++ entry ∷ []) next) entry.reply
    (λ l is.
    (let asked : entry.call ≡ call.TakeLaunch = launch-of-launch entry.call l (subst (λ r. IsReplyOf entry.call r) is (reply-kind w entry.at entry.call entry.reply next step.answered)) in
    let told : answer w entry.at call.TakeLaunch ≡ gives entry.reply next = subst (λ c. answer w entry.at c ≡ gives entry.reply next) asked step.answered in
    step-launch history w entry next runs low (launch-hands_out (advance w entry.at) entry.at entry.reply next told)))
    (λ quiet. step-quiet history w entry next runs step quiet
    (λ asked.
    (let told : answer w entry.at call.TakeLaunch ≡ gives entry.reply next = subst (λ c. answer w entry.at c ≡ gives entry.reply next) asked step.answered in
    let out = launch-hands_out (advance w entry.at) entry.at entry.reply next told in
    let yes : hands_out out.row.job.0 (out.row.course.attempt + 1) entry.reply ≡ true = own-launch history w entry next runs low out in
    absurd (false≢true (sym (quiet out.row.job.0 (out.row.course.attempt + 1)) ∙ yes)))))
