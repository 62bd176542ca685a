-- The reports of launcher and reaper, and the taking of a signal, keep a plan fit.
use Rattle.std.proofs.Common.{◌≡◌, ◌≢◌, ◌≤◌, ℕ, Bool, true, false, cond, eqb, leb, not, ◌&&◌, ◌||◌, List, [], ◌∷◌, Option, Some, None, refl, sym, ◌∙◌, ap, subst}
use Rattle.std.specs.Prelude.{is_some, IsSome}
use Rattle.drmaa_types.specs.declared.moments.End.{End}
use Rattle.std.specs.List.{AllByRecursion, list_any}
use Rattle.std.specs.Option.{option_map_or}
use Rattle.std.proofs.lemmas.Bool.{and_parts, false≢true, not-true, eqb-true}
use Rattle.drmaa_types.specs.States.{is_waiting, is_started, may, after_exit, after_start_failure}
use Rattle.drmaa_types.specs.declared.identifiers.JobId.{JobId}
use Rattle.drmaa_types.specs.declared.refusals.Refusal.{Refusal}
use Rattle.drmaa_types.specs.declared.refusals.Refusal.TheVariants.{InvalidArgument, InvalidState}
use Rattle.drmaa_types.specs.declared.refusals.Which.TheVariants as which
use Rattle.drmaa_types.specs.declared.states.Exit.{Exit}
use Rattle.drmaa_types.specs.declared.states.Exit.TheVariants.{Code, Signal}
use Rattle.drmaa_types.specs.declared.states.JobState.{JobState}
use Rattle.drmaa_types.specs.declared.states.JobState.TheVariants.{Undetermined, Running, Suspended, Requeued, Done, Failed}
use Rattle.drmaa_types.specs.declared.states.SignalKind.{SignalKind}
use Rattle.drmaa_types.specs.declared.states.SignalKind.TheVariants.{Stop, Cont, Kill}
use Rattle.drmaa_model.specs.declared.calls.Report.{Report}
use Rattle.drmaa_model.specs.declared.calls.Report.TheVariants as report
use Rattle.drmaa_model.specs.declared.courses.Course.{Course}
use Rattle.drmaa_model.specs.declared.courses.Kill.{Kill as Killing}
use Rattle.drmaa_model.specs.declared.courses.Kill.TheVariants as kill
use Rattle.drmaa_model.specs.declared.courses.Order.{Order}
use Rattle.drmaa_model.specs.declared.courses.Phase.{Phase}
use Rattle.drmaa_model.specs.declared.courses.Phase.TheVariants.{Idle, Launching, Alive}
use Rattle.drmaa_model.specs.declared.rows.Row.{Row}
use Rattle.drmaa_model.specs.declared.rows.Wants.{Wants}
use Rattle.drmaa_model.specs.Courses.{begun, unstarted, exited, lost, signal_failed, is_asked}
use Rattle.drmaa_model.specs.Fit.{IsSound, IsFor, IsFit}
use Rattle.drmaa_model.specs.FitLaws.{Lasts, go_on-fit, orders-kept, orders-cleared}
use Rattle.drmaa_model.specs.Launching.{is_alive, is_due_now, take_first, signal}
use Rattle.drmaa_model.specs.OperationLaws.{KeepsFit, goes-on, takes-started, takes-stopped, own-job, row-sound}
use Rattle.drmaa_model.specs.Plan.{Plan}
use Rattle.drmaa_model.specs.Reporting.{is_idle, is_launching, may_begin, may_exit, is_taken, may_tell, orders_without, drop_first, start_row, over_row, unstart_row, end_row, lose_row, done_row, undone_row, reported, report_of}
use Rattle.drmaa_model.specs.Rows.{row_of}
use Rattle.drmaa_model.specs.TimeLaws.{started-waits}

-- ---- what a report comes to

module _ (test : Plan → Course → Bool) (job : JobId) (effect : ℕ → Plan → Row → Plan) (p : Plan) where
  report-at : Option Row → Bool → Option Refusal
  report-at o b = cond (not (is_some o)) (Some (InvalidArgument which.Job)) (cond (not b) (Some (InvalidState (option_map_or (λ (row : Row). row.course.state) o Undetermined))) None)

  fresh : Option Row → Bool
  fresh o = option_map_or (λ (row : Row). test p row.course) o false

  pub report-lost : row_of job p.rows ≡ None → (reported test job effect).refusal p ≡ Some (InvalidArgument which.Job)
  unfolding report-at fresh
  report-lost found = ap (λ (o : Option Row). report-at o (fresh o)) found

  pub report-stray : (row : Row) → row_of job p.rows ≡ Some row → test p row.course ≡ false → (reported test job effect).refusal p ≡ Some (InvalidState row.course.state)
  unfolding report-at fresh
  report-stray row found stray = ap (λ (o : Option Row). report-at o (fresh o)) found ∙ ap (report-at (Some row)) stray

  pub report-free : (row : Row) → row_of job p.rows ≡ Some row → test p row.course ≡ true → (reported test job effect).refusal p ≡ None
  unfolding report-at fresh
  report-free row found meets = ap (λ (o : Option Row). report-at o (fresh o)) found ∙ ap (report-at (Some row)) meets

  pub report-effect : (entry : ℕ) (row : Row) → row_of job p.rows ≡ Some row → (reported test job effect).effect entry p ≡ effect entry p row
  report-effect entry row found = ap (λ (o : Option Row). option_map_or (effect entry p) o p) found

  -- what is not refused finds its row
  pub report-finds : (reported test job effect).refusal p ≡ None → (row : Row) × (row_of job p.rows ≡ Some row) × (test p row.course ≡ true)
  unfolding report-at fresh
  report-finds free =
      (elim (row_of job p.rows) as (λ o. row_of job p.rows ≡ o → report-at o (fresh o) ≡ None → (row : Row) × (row_of job p.rows ≡ Some row) × (test p row.course ≡ true)) [
        | None ↦ λ is h. absurd (cc)
        | Some row ↦ λ is h.
            (elim (test p row.course) as (λ b. test p row.course ≡ b → report-at (Some row) b ≡ None → (row : Row) × (row_of job p.rows ≡ Some row) × (test p row.course ≡ true)) [
              | false ↦ λ e g. absurd (cc)
              | true ↦ λ e g. (row, is, e)
            ]) refl h
      ]) refl free

-- what is true of the plan after a report's row has gone on is true of it after a report that is not refused
pub report-leads : (Q : Plan → Type 0) (test : Plan → Course → Bool) (job : JobId) (effect : ℕ → Plan → Row → Plan) (entry : ℕ) (p : Plan)
    → ((row : Row) → row_of job p.rows ≡ Some row → test p row.course ≡ true → Q (effect entry p row))
    → (reported test job effect).refusal p ≡ None → Q ((reported test job effect).effect entry p)
report-leads Q test job effect entry p leads free =
    let finds = report-finds test job effect p free in
    subst Q (sym (report-effect test job effect p entry finds.0 finds.1)) (leads finds.0 finds.1 finds.2)

-- a report keeps a plan fit where it does so at its row
reported-keeps : (test : Plan → Course → Bool) (job : JobId) (effect : ℕ → Plan → Row → Plan)
    → ((entry : ℕ) (p : Plan) (row : Row) → IsFit p → row_of job p.rows ≡ Some row → test p row.course ≡ true → IsFit (effect entry p row))
    → KeepsFit (reported test job effect)
reported-keeps test job effect keeps = record { keeps = λ entry p fit free. report-leads IsFit test job effect entry p (λ row. keeps entry p row fit) free }

-- ---- whose process is there

pub not_idle-started : (wants : Wants) (course : Course) → IsSound wants course → is_idle course.phase ≡ false → is_started course.state ≡ true
not_idle-started wants course sound busy =
    (elim (is_started course.state) as (λ b. is_started course.state ≡ b → is_started course.state ≡ true) [
      | true ↦ λ e. e
      | false ↦ λ e. (let idle : course.phase ≡ Idle = (sound.idle e).0 in let h : is_idle course.phase ≡ true = ap is_idle idle in absurd (cc))
    ]) refl

launching-not_idle : (phase : Phase) → is_launching phase ≡ true → is_idle phase ≡ false
launching-not_idle Idle h = absurd (cc)
launching-not_idle Launching h = refl
launching-not_idle Alive h = absurd (cc)

pub may_begin-busy : (attempt : ℕ) (course : Course) → may_begin attempt course ≡ true → is_idle course.phase ≡ false
may_begin-busy attempt course may = launching-not_idle course.phase (and_parts (is_launching course.phase) (eqb course.attempt attempt) may).0

pub may_exit-busy : (attempt : ℕ) (course : Course) → may_exit attempt course ≡ true → is_idle course.phase ≡ false
may_exit-busy attempt course may = not-true (is_idle course.phase) (and_parts (not (is_idle course.phase)) (eqb course.attempt attempt) may).0

-- ---- a start

sound-begun : (row : Row) → IsSound row.wants row.course → is_started row.course.state ≡ true → IsSound row.wants (begun row.course)
sound-begun row sound is = record {
  least = sound.least;
  range = sound.range;
  known = sound.known;
  idle = λ e. absurd (false≢true (sym e ∙ is));
  started = λ e. ((λ h. cc), (sound.started e).1, (sound.started e).2);
  planned = sound.planned;
  unplanned = sound.unplanned;
  spared = sound.spared;
  limit = sound.limit;
}

start-fit : (job : JobId) (attempt entry : ℕ) (p : Plan) (row : Row) → IsFit p → row_of job p.rows ≡ Some row → may_begin attempt row.course ≡ true → IsFit (start_row entry p row)
start-fit job attempt entry p row fit found may =
    let sound = row-sound job p row fit found in
    let is = not_idle-started row.wants row.course sound (may_begin-busy attempt row.course may) in
    let next = begun row.course in
    let on = goes-on entry p row next fit (own-job job p row found) (sound-begun row sound is) (takes-started row next refl refl refl) refl refl in
    go_on-fit entry p row next fit on p.orders (orders-kept entry p row next fit on (record { started = λ e. e; alive = λ e. refl }) p.orders fit.asked)

-- ---- the end of a run

-- the state after a run; only a job of which no kill was asked waits again
pub record IsOver (s : JobState) (asked : Bool) : Type 0 where
  pub stopped : is_started s ≡ false
  pub known : s ≢ Undetermined
  pub waits : is_waiting s ≡ true → asked ≡ false
  pub running : may Running s ≡ true
  pub suspended : may Suspended s ≡ true

failed-over : (asked : Bool) → IsOver Failed asked
failed-over asked = record { stopped = refl; known = λ e. cc; waits = λ w. absurd (cc); running = refl; suspended = refl }

done-over : (asked : Bool) → IsOver Done asked
done-over asked = record { stopped = refl; known = λ e. cc; waits = λ w. absurd (cc); running = refl; suspended = refl }

requeued-over : (asked : Bool) → asked ≡ false → IsOver Requeued asked
requeued-over asked unasked = record { stopped = refl; known = λ e. cc; waits = λ w. unasked; running = refl; suspended = refl }

pub after_exit-over : (exit : Exit) (rerunnable asked : Bool) → IsOver (after_exit (Some exit) rerunnable asked) asked
after_exit-over (Signal number) rerunnable asked = failed-over asked
after_exit-over (Code code) rerunnable true = failed-over true
after_exit-over (Code code) rerunnable false =
    elim (eqb code 0) as (λ b. IsOver (cond b Done (cond (eqb code 99 && rerunnable) Requeued Failed)) false) [
      | true ↦ done-over false
      | false ↦ elim (eqb code 99 && rerunnable) as (λ b. IsOver (cond b Requeued Failed) false) [
        | true ↦ requeued-over false refl
        | false ↦ failed-over false
      ]
    ]

pub after_loss-over : (rerunnable asked : Bool) → IsOver (after_exit None rerunnable asked) asked
after_loss-over rerunnable asked = failed-over asked

pub after_start_failure-over : (attempt : ℕ) (rerunnable asked : Bool) → IsOver (after_start_failure attempt rerunnable asked) asked
after_start_failure-over attempt rerunnable asked =
    (elim (rerunnable && not asked && leb 1 attempt && leb attempt 2) as (λ b. rerunnable && not asked && leb 1 attempt && leb attempt 2 ≡ b → IsOver (cond b Requeued Failed) asked) [
      | true ↦ λ e.
          (let first = and_parts (rerunnable && not asked && leb 1 attempt) (leb attempt 2) e in
          let second = and_parts (rerunnable && not asked) (leb 1 attempt) first.0 in
          requeued-over asked (not-true asked (and_parts rerunnable (not asked) second.0).1))
      | false ↦ λ e. failed-over asked
    ]) refl

kill-spared : (k : Killing) → is_asked k ≡ false → k ≡ kill.No
kill-spared kill.No h = refl
kill-spared kill.Asked h = absurd (cc)
kill-spared kill.Failed h = absurd (cc)

-- what is true of the course that a run's end leads to
pub record Stops (before next : Course) : Type 0 where
  pub over : IsOver next.state (is_asked before.kill)
  pub phase : next.phase ≡ Idle
  pub held : next.held ≡ 0
  pub planned : next.planned ≡ None
  pub kill : next.kill ≡ before.kill
  pub attempt : next.attempt ≡ before.attempt
  pub dispatched : next.dispatched ≡ before.dispatched

pub unstarted-stops : (moment : ℕ) (rerunnable : Bool) (course : Course) → Stops course (unstarted moment rerunnable course)
unstarted-stops moment rerunnable course = record { over = after_start_failure-over course.attempt rerunnable (is_asked course.kill); phase = refl; held = refl; planned = refl; kill = refl; attempt = refl; dispatched = refl }

pub exited-stops : (moment : ℕ) (exit : Exit) (rerunnable : Bool) (course : Course) → Stops course (exited moment exit rerunnable course)
exited-stops moment exit rerunnable course = record { over = after_exit-over exit rerunnable (is_asked course.kill); phase = refl; held = refl; planned = refl; kill = refl; attempt = refl; dispatched = refl }

pub lost-stops : (moment : ℕ) (rerunnable : Bool) (course : Course) → Stops course (lost moment rerunnable course)
lost-stops moment rerunnable course = record { over = after_loss-over rerunnable (is_asked course.kill); phase = refl; held = refl; planned = refl; kill = refl; attempt = refl; dispatched = refl }

sound-stopped : (wants : Wants) (before next : Course) → IsSound wants before → Stops before next → IsSound wants next
sound-stopped wants before next sound stops = record {
  least = sound.least;
  range = sound.range;
  known = stops.over.known;
  idle = λ e. (stops.phase, stops.held);
  started = λ e. absurd (false≢true (sym stops.over.stopped ∙ e));
  planned = λ e. absurd (false≢true (sym stops.over.stopped ∙ e));
  unplanned = λ e. stops.planned;
  spared = λ w. stops.kill ∙ kill-spared before.kill (stops.over.waits w);
  limit = sound.limit;
}

over-fit : (job : JobId) (entry : ℕ) (p : Plan) (row : Row) (next : Course) → IsFit p → row_of job p.rows ≡ Some row → Stops row.course next → IsFit (over_row next entry p row)
over-fit job entry p row next fit found stops =
    let sound = sound-stopped row.wants row.course next (row-sound job p row fit found) stops in
    let on = goes-on entry p row next fit (own-job job p row found) sound (takes-stopped row next stops.held stops.over.stopped) stops.attempt stops.dispatched in
    go_on-fit entry p row next fit on (orders_without row.job p.orders) (orders-cleared entry p row next fit on p.orders fit.asked)

-- ---- signals

-- a plan with other orders that are for its rows
orders-fit : (p : Plan) (orders : List Order) → IsFit p → AllByRecursion (IsFor p.rows) orders → IsFit (record p { orders = orders })
orders-fit p orders fit asked = record {
  within = fit.within;
  sound = fit.sound;
  jobs = fit.jobs;
  reserved = fit.reserved;
  arrays = fit.arrays;
  attempts = fit.attempts;
  asked = asked;
  loads = fit.loads;
  books = fit.books;
  inside = fit.inside;
  queued = fit.queued;
  bounds = fit.bounds;
  alike = fit.alike;
  accepted = fit.accepted;
  dispatched = fit.dispatched;
}

all-drop_first : (P : Order → Type 0) (test : Order → Bool) (orders : List Order) → AllByRecursion P orders → AllByRecursion P (drop_first test orders)
all-drop_first P test [] all = tt
all-drop_first P test (o ∷ orders) all =
    elim (test o) as (λ b. AllByRecursion P (cond b orders (o ∷ drop_first test orders))) [
      | true ↦ all.1
      | false ↦ (all.0, all-drop_first P test orders all.1)
    ]

any-found : {X : Type 0} (P : X → Type 0) (test : X → Bool) (xs : List X) → list_any test xs ≡ true → AllByRecursion P xs → (x : X) × (test x ≡ true) × P x
any-found P test [] any all = absurd (cc)
any-found {X} P test (x ∷ xs) any all =
    (elim (test x) as (λ b. test x ≡ b → (b || list_any test xs) ≡ true → (x : X) × (test x ≡ true) × P x) [
      | true ↦ λ e h. (x, e, all.0)
      | false ↦ λ e h. any-found P test xs h all.1
    ]) refl any

-- a job of which a signal is told is started
pub told-started : (attempt : ℕ) (job : JobId) (k : SignalKind) (p : Plan) (row : Row) → IsFit p → row_of job p.rows ≡ Some row → may_tell attempt job k p row.course ≡ true → is_started row.course.state ≡ true
told-started attempt job k p row fit found may =
    let any = (and_parts (eqb row.course.attempt attempt) (list_any (is_taken job k) p.orders) may).1 in
    let some = any-found (IsFor p.rows) (is_taken job k) p.orders any fit.asked in
    let order = some.0 in
    let taken = (and_parts (order.taken && eqb order.job.0 job.0) _ some.1).0 in
    let number : order.job.0 ≡ job.0 = eqb-true order.job.0 job.0 (and_parts order.taken (eqb order.job.0 job.0) taken).1 in
    let same : order.job ≡ job = ap (λ (n : ℕ). let j : JobId = record { 0 = n } in j) number in
    sym (ap (λ (o : Option Row). option_map_or (λ (r : Row). is_started r.course.state) o false) (ap (λ (j : JobId). row_of j p.rows) same ∙ found)) ∙ some.2.started

-- what a signal that could not be delivered leaves
pub record Marks (before next : Course) : Type 0 where
  pub state : next.state ≡ before.state
  pub phase : next.phase ≡ before.phase
  pub held : next.held ≡ before.held
  pub planned : next.planned ≡ before.planned
  pub attempt : next.attempt ≡ before.attempt
  pub dispatched : next.dispatched ≡ before.dispatched

pub failed-marks : (k : SignalKind) (course : Course) → Marks course (signal_failed k course)
failed-marks Stop course = record { state = refl; phase = refl; held = refl; planned = refl; attempt = refl; dispatched = refl }
failed-marks Cont course = record { state = refl; phase = refl; held = refl; planned = refl; attempt = refl; dispatched = refl }
failed-marks Kill course = record { state = refl; phase = refl; held = refl; planned = refl; attempt = refl; dispatched = refl }

sound-marked : (wants : Wants) (before next : Course) → IsSound wants before → Marks before next → is_started before.state ≡ true → IsSound wants next
sound-marked wants before next sound marks is =
    let still : is_started next.state ≡ true = ap is_started marks.state ∙ is in
    let had = sound.started is in
    record {
      least = sound.least;
      range = sound.range;
      known = λ e. sound.known (sym marks.state ∙ e);
      idle = λ e. absurd (false≢true (sym e ∙ still));
      started = λ e. ((λ h. had.0 (sym marks.phase ∙ h)), subst (λ (n : ℕ). wants.min ≤ n) (sym marks.held) had.1, subst (λ (n : ℕ). n ≤ wants.max) (sym marks.held) had.2);
      planned = λ e. subst (λ (o : Option End). IsSome o) (sym marks.planned) (sound.planned is);
      unplanned = λ e. absurd (false≢true (sym e ∙ still));
      spared = λ w. absurd (false≢true (sym (started-waits next.state still) ∙ w));
      limit = sound.limit;
    }

undone-fit : (job : JobId) (attempt : ℕ) (k : SignalKind) (entry : ℕ) (p : Plan) (row : Row) → IsFit p → row_of job p.rows ≡ Some row → may_tell attempt job k p row.course ≡ true → IsFit (undone_row k entry p row)
undone-fit job attempt k entry p row fit found may =
    let is = told-started attempt job k p row fit found may in
    let next = signal_failed k row.course in
    let marks = failed-marks k row.course in
    let sound = sound-marked row.wants row.course next (row-sound job p row fit found) marks is in
    let on = goes-on entry p row next fit (own-job job p row found) sound (takes-started row next marks.held (ap is_started marks.state) marks.planned) marks.attempt marks.dispatched in
    let lasts : Lasts row (record row { course = next }) = record { started = λ e. ap is_started marks.state ∙ e; alive = λ e. ap is_alive marks.phase ∙ e } in
    go_on-fit entry p row next fit on (drop_first (is_taken row.job k) p.orders)
    (orders-kept entry p row next fit on lasts (drop_first (is_taken row.job k) p.orders) (all-drop_first (IsFor p.rows) (is_taken row.job k) p.orders fit.asked))

done-fit : (k : SignalKind) (entry : ℕ) (p : Plan) (row : Row) → IsFit p → IsFit (done_row k entry p row)
done-fit k entry p row fit = orders-fit p (drop_first (is_taken row.job k) p.orders) fit (all-drop_first (IsFor p.rows) (is_taken row.job k) p.orders fit.asked)

pub report-keeps : (r : Report) → KeepsFit (report_of r)
report-keeps (report.Started job attempt) = reported-keeps (λ p. may_begin attempt) job start_row (λ entry p row fit found may. start-fit job attempt entry p row fit found may)
report-keeps (report.StartFailed job attempt) = reported-keeps (λ p. may_begin attempt) job unstart_row
    (λ entry p row fit found may. over-fit job entry p row (unstarted p.moment row.wants.rerunnable row.course) fit found (unstarted-stops p.moment row.wants.rerunnable row.course))
report-keeps (report.Exited job attempt exit) = reported-keeps (λ p. may_exit attempt) job (end_row exit)
    (λ entry p row fit found may. over-fit job entry p row (exited p.moment exit row.wants.rerunnable row.course) fit found (exited-stops p.moment exit row.wants.rerunnable row.course))
report-keeps (report.ExitUnknown job attempt) = reported-keeps (λ p. may_exit attempt) job lose_row
    (λ entry p row fit found may. over-fit job entry p row (lost p.moment row.wants.rerunnable row.course) fit found (lost-stops p.moment row.wants.rerunnable row.course))
report-keeps (report.SignalDone job attempt k) = reported-keeps (may_tell attempt job k) job (done_row k) (λ entry p row fit found may. done-fit k entry p row fit)
report-keeps (report.SignalFailed job attempt k) = reported-keeps (may_tell attempt job k) job (undone_row k) (λ entry p row fit found may. undone-fit job attempt k entry p row fit found may)

-- an order that is taken is for a process that is there
taken-for : (rows : List Row) (orders : List Order) → AllByRecursion (IsFor rows) orders → AllByRecursion (IsFor rows) (take_first (is_due_now rows) orders)
taken-for rows [] all = tt
taken-for rows (o ∷ orders) all =
    (elim (is_due_now rows o) as (λ b. is_due_now rows o ≡ b → AllByRecursion (IsFor rows) (cond b (record o { taken = true } ∷ orders) (o ∷ take_first (is_due_now rows) orders))) [
      | true ↦ λ e. (record { started = all.0.started; alive = λ taken. (and_parts (not o.taken) (option_map_or (λ (row : Row). is_alive row.course.phase) (row_of o.job rows) false) e).1 }, all.1)
      | false ↦ λ e. (all.0, taken-for rows orders all.1)
    ]) refl

pub signal-keeps : KeepsFit signal
signal-keeps = record { keeps = λ entry p fit free. orders-fit p (take_first (is_due_now p.rows) p.orders) fit (taken-for p.rows p.orders fit.asked) }
