-- What a call adds to the journal's size: an accepted report of a run adds nothing, since room for it was promised.
use Rattle.std.proofs.Common.{◌≡◌, ℕ, ◌+◌, ◌≤◌, Bool, true, false, cond, eqb, not, ◌&&◌, List, [], ◌∷◌, ◌++◌, map, filter, length, sum_by, Option, Some, None, refl, sym, ◌∙◌, ap, subst, arith, length-append}
use Rattle.std.specs.List.{AllByRecursion, flat_map}
use Rattle.std.specs.Option.{option_map_or}
use Rattle.std.proofs.Math.Bool.{and-true}
use Rattle.std.proofs.lemmas.Bool.{and_parts, not-false}
use Rattle.std.proofs.lemmas.List.Sums.{sum_by-cons, sum_by-append, length-filter}
use Rattle.job_template.specs.declared.templates.JobTemplate.{JobTemplate}
use Rattle.drmaa_types.specs.States.{is_state, is_waiting, is_started, has_terminated, after_control}
use Rattle.drmaa_types.specs.declared.changes.Change.{Change}
use Rattle.drmaa_types.specs.declared.identifiers.JobId.{JobId}
use Rattle.drmaa_types.specs.declared.identifiers.ReservationId.{ReservationId}
use Rattle.drmaa_types.specs.declared.states.Control.{Control}
use Rattle.drmaa_types.specs.declared.states.Control.TheVariants.{Suspend, Resume, Hold, Release, Terminate}
use Rattle.drmaa_types.specs.declared.states.JobState.{JobState}
use Rattle.drmaa_types.specs.declared.states.JobState.TheVariants.{Done, Failed}
use Rattle.drmaa_types.specs.declared.states.Note.TheVariants as note
use Rattle.drmaa_types.specs.declared.states.SignalKind.{SignalKind}
use Rattle.drmaa_types.specs.declared.states.SignalKind.TheVariants.{Stop, Cont, Kill}
use Rattle.drmaa_model.specs.declared.calls.Indices.{Indices}
use Rattle.drmaa_model.specs.declared.calls.Report.{Report}
use Rattle.drmaa_model.specs.declared.calls.Report.TheVariants as report
use Rattle.drmaa_model.specs.declared.calls.Target.{Target}
use Rattle.drmaa_model.specs.declared.courses.Course.{Course}
use Rattle.drmaa_model.specs.declared.courses.Phase.{Phase}
use Rattle.drmaa_model.specs.declared.courses.Phase.TheVariants.{Idle, Launching, Alive}
use Rattle.drmaa_model.specs.declared.rows.Row.{Row}
use Rattle.drmaa_model.specs.Controlling.{is_controlled, controlled_row, control_step, control, is_done, reap}
use Rattle.drmaa_model.specs.Courses.{failed, called, launched, planned_end, begun, unstarted, exited, lost, signal_failed, may_kill, terminated, controlled, submitted_course}
use Rattle.drmaa_model.specs.Effects.{left_by, is_forgotten, forget_home}
use Rattle.drmaa_model.specs.Fit.{IsSound, IsFit}
use Rattle.drmaa_model.specs.FitLaws.{SameKind, same-kind, ends-waiting}
use Rattle.drmaa_model.specs.Growth.{is_of_run, is_growing}
use Rattle.drmaa_model.specs.Homes.{is_same_home}
use Rattle.drmaa_model.specs.Launching.{launch_row}
use Rattle.drmaa_model.specs.NextLaunch.{next_launch}
use Rattle.drmaa_model.specs.NextLaunchLaws.{next_launch-is}
use Rattle.drmaa_model.specs.OperationLaws.{own-job, row-sound}
use Rattle.drmaa_model.specs.Plan.{Plan}
use Rattle.drmaa_model.specs.Reporting.{is_idle, is_launching, may_begin, may_exit, may_tell, start_row, over_row, unstart_row, end_row, lose_row, done_row, undone_row, report_of}
use Rattle.drmaa_model.specs.ReportLaws.{Stops, failed-marks, unstarted-stops, exited-stops, lost-stops, report-leads, not_idle-started, may_begin-busy, may_exit-busy}
use Rattle.drmaa_model.specs.Requests.{without_reservation, end_reservation}
use Rattle.drmaa_model.specs.Rows.{row_of, change_of, go_on}
use Rattle.drmaa_model.specs.RowLaws.{all-each, all-implied, is_state-same, sum_with_course, changes_with_course}
use Rattle.drmaa_model.specs.Size.{room_of, phase_room, promised, weight}
use Rattle.drmaa_model.specs.Submitting.{Member, members, new_row, new_rows, submit}
use Rattle.drmaa_model.specs.Targets.{is_meant}
use Rattle.drmaa_model.specs.Time.{expire}
use Rattle.drmaa_model.specs.TimeLaws.{started-waits, sum-kept, weight-expire, weight-call_in}

-- ---- one row

-- a row has at most one change, and none where its state stays
pub length-change : (entry : ℕ) (r next : Row) → length (change_of entry r next) ≤ 1
length-change entry r next =
    let change : Change = record { entry = entry; job = r.job; home = r.home; from = r.course.state; to = next.course.state } in
    elim (is_state r.course.state next.course.state) as (λ b. length {A = Change} (cond b [] (change ∷ [])) ≤ 1) [ true ↦ omega arith | false ↦ omega arith ]

pub length-same : (entry : ℕ) (r next : Row) → next.course.state ≡ r.course.state → length (change_of entry r next) ≡ 0
length-same entry r next same =
    let change : Change = record { entry = entry; job = r.job; home = r.home; from = r.course.state; to = next.course.state } in
    ap (λ b. length {A = Change} (cond b [] (change ∷ []))) (ap (is_state r.course.state) same ∙ is_state-same r.course.state)

room-waits : (course : Course) → is_waiting course.state ≡ true → room_of course ≡ 1
room-waits course waits = ap (λ b. cond {A = ℕ} b 1 (phase_room course.phase)) waits

room-started : (course : Course) → is_started course.state ≡ true → room_of course ≡ phase_room course.phase
room-started course is = ap (λ b. cond {A = ℕ} b 1 (phase_room course.phase)) (started-waits course.state is)

-- one job goes on
module _ (entry : ℕ) (p : Plan) (job : JobId) (row : Row) (next : Course) (fit : IsFit p) (found : row_of job p.rows ≡ Some row) where
  pub go_on-weight : weight (go_on entry row.job next p) + room_of row.course ≡ weight p + (room_of next + length (change_of entry row (record row { course = next })))
  go_on-weight =
      let own = own-job job p row found in
      let sum = sum_with_course row.job next (λ (r : Row). room_of r.course) p.rows row fit.jobs.rising own in
      let more = changes_with_course row.job next entry p.rows row fit.jobs.rising own in
      let long : length (go_on entry row.job next p).changes ≡ length (p.changes ++ change_of entry row (record row { course = next })) = ap (λ (cs : List Change). length (p.changes ++ cs)) more in
      omega (arith, sum, long, length-append p.changes (change_of entry row (record row { course = next })))

-- ---- the launch

pub launch-weight : (entry : ℕ) (p : Plan) (row : Row) (slots : ℕ) → IsFit p → next_launch p ≡ Some (row, slots) → weight (launch_row entry row slots p) ≤ weight p + 4
launch-weight entry p row slots fit first =
    let next = next_launch-is p (row, slots) fit.jobs.rising first in
    let course = launched p.moment slots (planned_end row.wants p.moment) row.course in
    let sum = go_on-weight entry p row.job row course fit next.kept in
    let one = length-change entry row (record row { course = course }) in
    let before = room-waits row.course next.state.waits in
    omega (arith, sum, one, before)

-- ---- reports

room-launching : (p : Phase) → is_launching p ≡ true → phase_room p ≡ 4
room-launching Idle h = absurd (cc)
room-launching Launching h = refl
room-launching Alive h = absurd (cc)

room-busy : (p : Phase) → is_idle p ≡ false → 3 ≤ phase_room p
room-busy Idle h = absurd (cc)
room-busy Launching h = omega arith
room-busy Alive h = omega arith

room-stopped : (waits : Bool) (p : Phase) → p ≡ Idle → cond {A = ℕ} waits 1 (phase_room p) ≤ 1
room-stopped true p idle = omega arith
room-stopped false p idle = (let none = ap phase_room idle in omega arith)

start-weight : (job : JobId) (attempt entry : ℕ) (p : Plan) (row : Row) → IsFit p → row_of job p.rows ≡ Some row → may_begin attempt row.course ≡ true → weight (start_row entry p row) + 1 ≤ weight p
start-weight job attempt entry p row fit found may =
    let is = not_idle-started row.wants row.course (row-sound job p row fit found) (may_begin-busy attempt row.course may) in
    let before = room-started row.course is in
    let four = room-launching row.course.phase (and_parts (is_launching row.course.phase) (eqb row.course.attempt attempt) may).0 in
    let after = room-started (begun row.course) is in
    let sum = go_on-weight entry p job row (begun row.course) fit found in
    let none = length-same entry row (record row { course = begun row.course }) refl in
    omega (arith, sum, none, before, four, after)

over-weight : (job : JobId) (entry : ℕ) (p : Plan) (row : Row) (next : Course) → IsFit p → row_of job p.rows ≡ Some row → is_idle row.course.phase ≡ false → Stops row.course next → weight (over_row next entry p row) + 1 ≤ weight p
over-weight job entry p row next fit found busy stops =
    let is = not_idle-started row.wants row.course (row-sound job p row fit found) busy in
    let before = room-started row.course is in
    let three = room-busy row.course.phase busy in
    let after : room_of next ≤ 1 = room-stopped (is_waiting next.state) next.phase stops.phase in
    let sum = go_on-weight entry p job row next fit found in
    let one = length-change entry row (record row { course = next }) in
    omega (arith, sum, one, before, three, after)

failed-room : (k : SignalKind) (course : Course) → room_of (signal_failed k course) ≡ room_of course
failed-room Stop course = refl
failed-room Cont course = refl
failed-room Kill course = refl

undone-weight : (job : JobId) (k : SignalKind) (entry : ℕ) (p : Plan) (row : Row) → IsFit p → row_of job p.rows ≡ Some row → weight (undone_row k entry p row) ≤ weight p
undone-weight job k entry p row fit found =
    let next = signal_failed k row.course in
    let sum = go_on-weight entry p job row next fit found in
    let none = length-same entry row (record row { course = next }) (failed-marks k row.course).state in
    let same = failed-room k row.course in
    omega (arith, sum, none, same)

-- the second plan weighs less
abbrev Lightens : Plan → Plan → Type 0
Lightens p q = weight q + 1 ≤ weight p

-- an accepted report of a run and its entry add nothing to the size
pub run-weight : (r : Report) (entry : ℕ) (p : Plan) → is_of_run r ≡ true → IsFit p → (report_of r).refusal p ≡ None → weight ((report_of r).effect entry p) + 1 ≤ weight p
run-weight (report.Started job attempt) entry p run fit free = report-leads (Lightens p) (λ p. may_begin attempt) job start_row entry p (λ row found may. start-weight job attempt entry p row fit found may) free
run-weight (report.StartFailed job attempt) entry p run fit free = report-leads (Lightens p) (λ p. may_begin attempt) job unstart_row entry p
    (λ row found may. over-weight job entry p row (unstarted p.moment row.wants.rerunnable row.course) fit found (may_begin-busy attempt row.course may) (unstarted-stops p.moment row.wants.rerunnable row.course)) free
run-weight (report.Exited job attempt exit) entry p run fit free = report-leads (Lightens p) (λ p. may_exit attempt) job (end_row exit) entry p
    (λ row found may. over-weight job entry p row (exited p.moment exit row.wants.rerunnable row.course) fit found (may_exit-busy attempt row.course may) (exited-stops p.moment exit row.wants.rerunnable row.course)) free
run-weight (report.ExitUnknown job attempt) entry p run fit free = report-leads (Lightens p) (λ p. may_exit attempt) job lose_row entry p
    (λ row found may. over-weight job entry p row (lost p.moment row.wants.rerunnable row.course) fit found (may_exit-busy attempt row.course may) (lost-stops p.moment row.wants.rerunnable row.course)) free
run-weight _ entry p run fit free = absurd (cc)

-- no report raises the weight
pub report-weight : (r : Report) (entry : ℕ) (p : Plan) → IsFit p → (report_of r).refusal p ≡ None → weight ((report_of r).effect entry p) ≤ weight p
report-weight (report.SignalDone job attempt k) entry p fit free = report-leads (λ (q : Plan). weight q ≤ weight p) (may_tell attempt job k) job (done_row k) entry p (λ row found may. omega arith) free
report-weight (report.SignalFailed job attempt k) entry p fit free =
    report-leads (λ (q : Plan). weight q ≤ weight p) (may_tell attempt job k) job (undone_row k) entry p (λ row found may. undone-weight job k entry p row fit found) free
report-weight r entry p fit free = (let less = run-weight r entry p refl fit free in omega arith)

-- ---- control

-- rows that go on, each with so many changes and so much room more
changes-sum : (entry : ℕ) (f : Row → Row) (more : Row → ℕ) (rows : List Row)
    → AllByRecursion (λ r. room_of (f r).course + length (change_of entry r (f r)) ≤ room_of r.course + more r) rows
    → promised (map f rows) + length (flat_map (λ row. change_of entry row (f row)) rows) ≤ promised rows + sum_by more rows
changes-sum entry f more [] all = omega arith
changes-sum entry f more (r ∷ rows) all =
    omega (
      arith,
      all.0,
      changes-sum entry f more rows all.1,
      sum_by-cons (λ (row : Row). room_of row.course) r rows,
      sum_by-cons (λ (row : Row). room_of row.course) (f r) (map f rows),
      sum_by-cons more r rows,
      length-append (change_of entry r (f r)) (flat_map (λ row. change_of entry row (f row)) rows),
    )

-- a job that is terminated gives up the room of its change
terminated-room : (entry moment : ℕ) (r : Row) (state : JobState) → after_control r.course.state Terminate ≡ Some state
    → room_of (terminated moment r.course) + length (change_of entry r (record r { course = terminated moment r.course })) ≤ room_of r.course
terminated-room entry moment r state permits =
    (elim (is_started r.course.state) as (λ s. is_started r.course.state ≡ s →
    room_of (cond s (cond (may_kill r.course.kill) (called note.Terminated r.course) r.course) (failed moment note.Terminated r.course))
    + length (change_of entry r (record r { course = cond s (cond (may_kill r.course.kill) (called note.Terminated r.course) r.course) (failed moment note.Terminated r.course) })) ≤ room_of r.course) [
      | false ↦ λ is.
          (let before = room-waits r.course (ends-waiting r.course.state state permits is) in
          let one = length-change entry r (record r { course = failed moment note.Terminated r.course }) in
          omega (arith, one, before))
      | true ↦ λ is. elim (may_kill r.course.kill) as (λ k. room_of (cond k (called note.Terminated r.course) r.course)
          + length (change_of entry r (record r { course = cond k (called note.Terminated r.course) r.course })) ≤ room_of r.course) [
            | true ↦ (let none = length-same entry r (record r { course = called note.Terminated r.course }) refl in omega arith)
            | false ↦ (let none = length-same entry r r refl in omega arith)
          ]
    ]) refl

state-room : (entry : ℕ) (r : Row) (state : JobState) → SameKind r.course.state state
    → room_of (record r.course { state = state }) + length (change_of entry r (record r { course = record r.course { state = state } })) ≤ room_of r.course + 1
state-room entry r state kind =
    let same : room_of (record r.course { state = state }) ≡ room_of r.course = ap (λ b. cond {A = ℕ} b 1 (phase_room r.course.phase)) kind.waits in
    let one = length-change entry r (record r { course = record r.course { state = state } }) in
    omega (arith, same, one)

controlled-room : (entry moment : ℕ) (what : Control) (r : Row) (state : JobState) → after_control r.course.state what ≡ Some state
    → room_of (controlled moment what state r.course) + length (change_of entry r (record r { course = controlled moment what state r.course })) ≤ room_of r.course + cond {A = ℕ} (is_growing what) 1 0
controlled-room entry moment Suspend r state permits = state-room entry r state (same-kind Suspend r.course.state state (λ e. cc) permits)
controlled-room entry moment Resume r state permits = state-room entry r state (same-kind Resume r.course.state state (λ e. cc) permits)
controlled-room entry moment Hold r state permits = state-room entry r state (same-kind Hold r.course.state state (λ e. cc) permits)
controlled-room entry moment Release r state permits = state-room entry r state (same-kind Release r.course.state state (λ e. cc) permits)
controlled-room entry moment Terminate r state permits = (let less = terminated-room entry moment r state permits in omega arith)

control-room : (entry moment : ℕ) (t : Target) (what : Control) (r : Row)
    → room_of (control_step moment t what r).course + length (change_of entry r (control_step moment t what r)) ≤ room_of r.course + cond {A = ℕ} (is_growing what && is_controlled t what r) 1 0
control-room entry moment t what r =
    let stays : (k : ℕ) → room_of r.course + length (change_of entry r r) ≤ room_of r.course + k = λ k. (let none = length-same entry r r refl in omega arith) in
    elim (is_controlled t what r) as (λ b. room_of (cond b (controlled_row moment what r) r).course + length (change_of entry r (cond b (controlled_row moment what r) r)) ≤ room_of r.course + cond {A = ℕ} (is_growing what && b) 1 0) [
      | false ↦ stays (cond {A = ℕ} (is_growing what && false) 1 0)
      | true ↦
          (elim (after_control r.course.state what) as (λ o. after_control r.course.state what ≡ o →
          room_of (option_map_or (λ (state : JobState). record r { course = controlled moment what state r.course }) o r).course
          + length (change_of entry r (option_map_or (λ (state : JobState). record r { course = controlled moment what state r.course }) o r)) ≤ room_of r.course + cond {A = ℕ} (is_growing what && true) 1 0) [
            | None ↦ λ e. stays (cond {A = ℕ} (is_growing what && true) 1 0)
            | Some state ↦ λ e. subst (λ (b : Bool). room_of (controlled moment what state r.course) + length (change_of entry r (record r { course = controlled moment what state r.course })) ≤ room_of r.course + cond {A = ℕ} b 1 0)
                (sym (and-true (is_growing what))) (controlled-room entry moment what r state e)
          ]) refl
    ]

-- a control call adds at most one change for each job that it acts on; a termination adds nothing
pub control-weight : (t : Target) (what : Control) (entry : ℕ) (p : Plan) → weight ((control t what).effect entry p) ≤ weight p + length (filter (λ (row : Row). is_growing what && is_controlled t what row) p.rows)
control-weight t what entry p =
    let f = control_step p.moment t what in
    let grows : Row → Bool = λ (row : Row). is_growing what && is_controlled t what row in
    let sum = changes-sum entry f (λ (row : Row). cond {A = ℕ} (grows row) 1 0) p.rows
    (all-each (λ r. room_of (f r).course + length (change_of entry r (f r)) ≤ room_of r.course + cond {A = ℕ} (grows r) 1 0) (control-room entry p.moment t what) p.rows) in
    omega (arith, sum, length-filter grows p.rows, length-append p.changes (flat_map (λ row. change_of entry row (f row)) p.rows))

-- ---- rows that are forgotten

-- without rows that owe nothing, as much is promised
promised-fewer : (test : Row → Bool) (rows : List Row) → AllByRecursion (λ (r : Row). test r ≡ false → room_of r.course ≡ 0) rows → promised (filter test rows) ≡ promised rows
promised-fewer test [] all = refl
promised-fewer test (r ∷ rows) all =
    let rest = promised-fewer test rows all.1 in
    (elim (test r) as (λ b. test r ≡ b → promised (cond b (r ∷ filter test rows) (filter test rows)) ≡ promised (r ∷ rows)) [
      | true ↦ λ e. omega (arith, rest, sum_by-cons (λ (row : Row). room_of row.course) r rows, sum_by-cons (λ (row : Row). room_of row.course) r (filter test rows))
      | false ↦ λ e. (let none = all.0 e in omega (arith, none, rest, sum_by-cons (λ (row : Row). room_of row.course) r rows))
    ]) refl

record IsDone (s : JobState) : Type 0 where
  stopped : is_started s ≡ false
  waits : is_waiting s ≡ false

done-is : (s : JobState) → has_terminated s ≡ true → IsDone s
done-is Done h = record { stopped = refl; waits = refl }
done-is Failed h = record { stopped = refl; waits = refl }
done-is _ h = absurd (cc)

forgotten-room : (meant : Row → Bool) (r : Row) → IsSound r.wants r.course → not (meant r && is_done r) ≡ false → room_of r.course ≡ 0
forgotten-room meant r sound h =
    let done = done-is r.course.state (and_parts (meant r) (is_done r) (not-false (meant r && is_done r) h)).1 in
    ap (λ b. cond {A = ℕ} b 1 (phase_room r.course.phase)) done.waits ∙ ap phase_room (sound.idle done.stopped).0

forgotten-promised : (meant : Row → Bool) (p : Plan) → IsFit p → promised (filter (λ (row : Row). not (meant row && is_done row)) p.rows) ≡ promised p.rows
forgotten-promised meant p fit =
    promised-fewer (λ (row : Row). not (meant row && is_done row)) p.rows
    (all-implied (λ (r : Row). IsSound r.wants r.course) (λ (r : Row). not (meant r && is_done r) ≡ false → room_of r.course ≡ 0) (forgotten-room meant) p.rows fit.sound)

pub reap-weight : (t : Target) (entry : ℕ) (p : Plan) → IsFit p → weight ((reap t).effect entry p) ≡ weight p
reap-weight t entry p fit = ap (λ (n : ℕ). length p.changes + n) (forgotten-promised (is_meant t) p fit)

pub forget-weight : (home : ℕ) (p : Plan) → IsFit p → weight (forget_home home p) ≡ weight p
forget-weight home p fit =
    let stays : Row → Bool = λ (row : Row). not (is_forgotten home row) in
    let kept : promised (map (λ (row : Row). record row { home = left_by home row.home }) (filter stays p.rows)) ≡ promised (filter stays p.rows) =
    sum-kept (λ (row : Row). room_of row.course) (λ (row : Row). record row { home = left_by home row.home }) (λ r. refl) (filter stays p.rows) in
    let same = forgotten-promised (λ (row : Row). is_same_home (Some home) row.home) p fit in
    omega (arith, kept, same)

-- ---- submission and reservations

room-submitted : (on_hold : Bool) → room_of (submitted_course on_hold) ≡ 1
room-submitted true = refl
room-submitted false = refl

pub new-promised : (home : ℕ) (p : Plan) (number : ℕ) (ms : List Member) → promised (new_rows home p number ms) ≡ length ms
new-promised home p number [] = refl
new-promised home p number (m ∷ ms) =
    omega (arith, room-submitted m.template.submit_as_hold, new-promised home p (number + 1) ms, sum_by-cons (λ (row : Row). room_of row.course) (new_row home p number m) (new_rows home p (number + 1) ms))

-- each job that is submitted is promised room for one change
pub submit-weight : (home : ℕ) (t : JobTemplate) (indices : Option Indices) (entry : ℕ) (p : Plan) → weight ((submit home t indices).effect entry p) ≡ weight p + length (members t indices p)
submit-weight home t indices entry p =
    let rows = new_rows home p p.next_job (members t indices p) in
    omega (arith, sum_by-append (λ (row : Row). room_of row.course) p.rows rows, new-promised home p p.next_job (members t indices p))

pub end-weight : (number : ReservationId) (entry : ℕ) (p : Plan) → weight ((end_reservation number).effect entry p) ≡ weight p
end-weight number entry p = weight-call_in (expire entry (without_reservation number p)) ∙ weight-expire entry (without_reservation number p)
