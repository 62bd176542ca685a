-- What an operation leads to, beside that it keeps a plan fit: each change that it adds is an edge of the state model,
-- and it raises no number by more than it may.
use Rattle.std.proofs.Common.{◌≡◌, ℕ, ◌+◌, ◌≤◌, Bool, true, false, cond, leb, ltb, not, ◌&&◌, ◌⊎◌, inl, inr, List, [], ◌∷◌, ◌++◌, map, filter, length, Option, Some, None, refl, sym, ◌∙◌, ap, subst, arith, append-nil, length-append, append_assoc}
use Rattle.std.specs.Prelude.{is_some, max}
use Rattle.std.specs.List.{AllByRecursion, flat_map}
use Rattle.std.specs.Option.{option_map, option_map_or}
use Rattle.std.proofs.lemmas.Bool.{false≢true, eqb-true, ltb-false, leb-false}
use Rattle.std.proofs.lemmas.List.{length-map, length_push}
use Rattle.std.proofs.lemmas.List.Sums.{sum_by-cons, sum_by-append}
use Rattle.job_template.specs.declared.templates.JobTemplate.{JobTemplate}
use Rattle.job_template.specs.declared.templates.ReservationTemplate.{ReservationTemplate}
use Rattle.job_template.specs.Frames.{frame_of, frame_tests}
use Rattle.job_template.specs.Texts.{text_length}
use Rattle.drmaa_types.specs.States.{is_state, is_waiting, is_started, may, after_control}
use Rattle.drmaa_types.specs.declared.changes.Change.{Change}
use Rattle.drmaa_types.specs.declared.identifiers.JobId.{JobId}
use Rattle.drmaa_types.specs.declared.identifiers.ReservationId.{ReservationId}
use Rattle.drmaa_types.specs.declared.refusals.Refusal.{Refusal}
use Rattle.drmaa_types.specs.declared.refusals.Refusal.TheVariants.{DeniedByDrms, OutOfResource}
use Rattle.drmaa_types.specs.declared.refusals.Limit.TheVariants as resource
use Rattle.drmaa_types.specs.declared.states.Control.{Control}
use Rattle.drmaa_types.specs.declared.states.Control.TheVariants.{Suspend, Resume, Hold, Release, Terminate}
use Rattle.drmaa_types.specs.declared.states.JobState.{JobState}
use Rattle.drmaa_types.specs.declared.states.JobState.TheVariants.{Undetermined, Queued, QueuedHeld, Running, Suspended, Requeued, RequeuedHeld, Failed}
use Rattle.drmaa_types.specs.declared.states.Note.TheVariants as note
use Rattle.drmaa_model.specs.declared.calls.Indices.{Indices}
use Rattle.drmaa_model.specs.declared.calls.Report.{Report}
use Rattle.drmaa_model.specs.declared.calls.Report.TheVariants as report
use Rattle.drmaa_model.specs.declared.calls.Target.{Target}
use Rattle.drmaa_model.specs.declared.courses.Course.{Course}
use Rattle.drmaa_model.specs.declared.courses.Order.{Order}
use Rattle.drmaa_model.specs.declared.reservations.Accepted.{Accepted}
use Rattle.drmaa_model.specs.declared.rows.Row.{Row}
use Rattle.drmaa_model.specs.Consistent.{AreFew, IsEdge, AddsEdges}
use Rattle.drmaa_model.specs.Controlling.{control_step, control, is_done, reap}
use Rattle.drmaa_model.specs.ControlLaws.{control-cases, all-flat_map}
use Rattle.drmaa_model.specs.Courses.{failed, called, launched, planned_end, begun, unstarted, exited, lost, signal_failed, may_kill, terminated, controlled, is_asked}
use Rattle.drmaa_model.specs.Effects.{left_by, is_forgotten, forget_home}
use Rattle.drmaa_model.specs.Fit.{IsRising, IsFit, number_of}
use Rattle.drmaa_model.specs.FitLaws.{all-append, same-kind, ends-waiting}
use Rattle.drmaa_model.specs.Launching.{launch_row, signal}
use Rattle.drmaa_model.specs.NextLaunch.{next_launch}
use Rattle.drmaa_model.specs.NextLaunchLaws.{next_launch-is}
use Rattle.drmaa_model.specs.OperationLaws.{refusal-append, no_test, own-job, row-sound}
use Rattle.drmaa_model.specs.Plan.{Plan}
use Rattle.drmaa_model.specs.Reporting.{is_idle, may_begin, may_exit, may_tell, is_taken, orders_without, drop_first, start_row, over_row, unstart_row, end_row, lose_row, done_row, undone_row, report_of}
use Rattle.drmaa_model.specs.ReportLaws.{IsOver, Stops, failed-marks, unstarted-stops, exited-stops, lost-stops, report-leads, not_idle-started, may_begin-busy, may_exit-busy}
use Rattle.drmaa_model.specs.Requests.{most_reservations, denied_at, start_in, accepted_at, chosen_start, request, without_reservation, is_other, end_reservation}
use Rattle.drmaa_model.specs.Rows.{is_of, row_of, change_of, change_rows, with_course, go_on}
use Rattle.drmaa_model.specs.RowLaws.{all-each, all-both, all-implied, is_state-same, rising-found}
use Rattle.drmaa_model.specs.Submitting.{Member, members, most_jobs, most_members, most_kept_text, kept_text, new_text, arrays_used, new_row, new_rows, submit}
use Rattle.drmaa_model.specs.SubmitLaws.{may-submit, submit-count, length-new}
use Rattle.drmaa_model.specs.Targets.{is_meant}
use Rattle.drmaa_model.specs.Time.{come_to, let_go, lasts, lapsed, expire, called_in, call_in, advance_plan}
use Rattle.drmaa_model.specs.TimeLaws.{lapsed-cases, called-cases, timed, row_of-advance, sum-kept}

-- what a step of a plan keeps
pub record PlanStep (entry : ℕ) (p q : Plan) : Type 0 where
  pub total : q.total ≡ p.total
  pub queues : q.queues ≡ p.queues
  pub moment : q.moment ≡ p.moment
  pub few : AreFew p.rows p.reservations → AreFew q.rows q.reservations
  pub jobs : q.next_job ≤ p.next_job + most_members
  pub arrays : q.next_array ≤ p.next_array + 1
  pub reservations : q.next_reservation ≤ p.next_reservation + 1
  pub edges : AddsEdges entry p q

-- ---- edges

-- a row stays in its state, or goes over an edge
pub record Goes (before after : Row) : Type 0 where
  pub edge : is_state before.course.state after.course.state ≡ false → may before.course.state after.course.state ≡ true

goes-same : (before after : Row) → after.course.state ≡ before.course.state → Goes before after
goes-same before after same = record { edge = λ e. absurd (false≢true (sym e ∙ (ap (is_state before.course.state) same ∙ is_state-same before.course.state))) }

no-edges : (entry : ℕ) (p q : Plan) → q.changes ≡ p.changes → AddsEdges entry p q
no-edges entry p q same = record { added = []; gained = same ∙ sym (append-nil p.changes); edges = tt }

edge-of-row : (entry : ℕ) (rows : List Row) (f : Row → Row) (r : Row) → (row_of r.job rows ≡ Some r) × Goes r (f r) → AllByRecursion (IsEdge entry rows) (change_of entry r (f r))
edge-of-row entry rows f r both =
    let to = (f r).course.state in
    let change : Change = record { entry = entry; job = r.job; home = r.home; from = r.course.state; to = to } in
    (elim (is_state r.course.state to) as (λ b. is_state r.course.state to ≡ b → AllByRecursion (IsEdge entry rows) (cond b [] (change ∷ []))) [
      | true ↦ λ e. tt
      | false ↦ λ e. (record { edge = both.1.edge e; from = ap (λ (o : Option Row). option_map_or (λ (row : Row). row.course.state) o Undetermined) both.0; entry_is = refl }, tt)
    ]) refl

-- rows that go over edges
pub rows-edges : (entry : ℕ) (p : Plan) (f : Row → Row) → IsRising number_of p.rows → AllByRecursion (λ r. Goes r (f r)) p.rows → AddsEdges entry p (change_rows entry f p)
rows-edges entry p f rising goes = record {
  added = flat_map (λ row. change_of entry row (f row)) p.rows;
  gained = refl;
  edges = all-flat_map (IsEdge entry p.rows) (λ row. change_of entry row (f row)) p.rows
      (all-implied (λ r. (row_of r.job p.rows ≡ Some r) × Goes r (f r)) (λ r. AllByRecursion (IsEdge entry p.rows) (change_of entry r (f r))) (edge-of-row entry p.rows f) p.rows
      (all-both (λ r. row_of r.job p.rows ≡ Some r) (λ r. Goes r (f r)) p.rows (rising-found p.rows rising) goes));
}

waits-edge : (s : JobState) → is_waiting s ≡ true → may s Failed ≡ true
waits-edge Queued h = refl
waits-edge QueuedHeld h = refl
waits-edge Requeued h = refl
waits-edge RequeuedHeld h = refl
waits-edge _ h = absurd (cc)

goes-lapsed : (moment : ℕ) (rs : List Accepted) (r : Row) → Goes r (lapsed moment rs r)
goes-lapsed moment rs r = lapsed-cases Goes moment rs r (λ h. goes-same r r refl) (λ h waits n. record { edge = λ e. waits-edge r.course.state waits })

goes-terminated : (moment : ℕ) (r : Row) (state : JobState) → after_control r.course.state Terminate ≡ Some state → Goes r (record r { course = terminated moment r.course })
goes-terminated moment r state permits =
    (elim (is_started r.course.state) as (λ s. is_started r.course.state ≡ s →
    Goes r (record r { course = cond s (cond (may_kill r.course.kill) (called note.Terminated r.course) r.course) (failed moment note.Terminated r.course) })) [
      | false ↦ λ is. record { edge = λ e. waits-edge r.course.state (ends-waiting r.course.state state permits is) }
      | true ↦ λ is. elim (may_kill r.course.kill) as (λ k. Goes r (record r { course = cond k (called note.Terminated r.course) r.course })) [
        | true ↦ goes-same r (record r { course = called note.Terminated r.course }) refl
        | false ↦ goes-same r r refl
      ]
    ]) refl

goes-controlled : (moment : ℕ) (what : Control) (r : Row) (state : JobState) → after_control r.course.state what ≡ Some state → Goes r (record r { course = controlled moment what state r.course })
goes-controlled moment Suspend r state permits = record { edge = λ e. (same-kind Suspend r.course.state state (λ h. cc) permits).edge }
goes-controlled moment Resume r state permits = record { edge = λ e. (same-kind Resume r.course.state state (λ h. cc) permits).edge }
goes-controlled moment Hold r state permits = record { edge = λ e. (same-kind Hold r.course.state state (λ h. cc) permits).edge }
goes-controlled moment Release r state permits = record { edge = λ e. (same-kind Release r.course.state state (λ h. cc) permits).edge }
goes-controlled moment Terminate r state permits = goes-terminated moment r state permits

goes-control : (moment : ℕ) (t : Target) (what : Control) (r : Row) → Goes r (control_step moment t what r)
goes-control moment t what r = control-cases Goes moment t what r (goes-same r r refl) (λ state e. goes-controlled moment what r state e)

goes-course : (job : JobId) (rows : List Row) (row : Row) (next : Course) → row_of job rows ≡ Some row → Goes row (record row { course = next })
    → (r : Row) → row_of r.job rows ≡ Some r → Goes r (with_course job next r)
goes-course job rows row next found goes r own =
    (elim (is_of job r) as (λ b. is_of job r ≡ b → Goes r (cond b (record r { course = next }) r)) [
      | true ↦ λ is.
          (let number : r.job ≡ job = ap (λ (n : ℕ). let j : JobId = record { 0 = n } in j) (eqb-true r.job.0 job.0 is) in
          let there : row_of job rows ≡ Some r = subst (λ (j : JobId). row_of j rows ≡ Some r) number own in
          let same : row ≡ r = cc in
          subst (λ (x : Row). Goes x (record x { course = next })) same goes)
      | false ↦ λ is. goes-same r r refl
    ]) refl

over-edge : (s t : JobState) (asked : Bool) → is_started s ≡ true → IsOver t asked → may s t ≡ true
over-edge Running t asked started over = over.running
over-edge Suspended t asked started over = over.suspended
over-edge _ t asked started over = absurd (cc)

-- ---- how many are kept

few-map : (f : Row → Row) → ((r : Row) → (f r).template ≡ r.template) → (rows : List Row) (rs : List Accepted) → AreFew rows rs → AreFew (map f rows) rs
few-map f same rows rs few = record {
  jobs = (let n = few.jobs in omega (arith, length-map rows f));
  text = (let n = few.text in omega (arith, sum-kept (λ (row : Row). text_length row.template) f (λ r. ap text_length (same r)) rows));
  reserved = few.reserved;
}

length-fewer : {X : Type 0} (test : X → Bool) (xs : List X) → length (filter test xs) ≤ length xs
length-fewer test [] = omega arith
length-fewer test (x ∷ xs) =
    elim (test x) as (λ b. length (cond b (x ∷ filter test xs) (filter test xs)) ≤ length (x ∷ xs)) [ true ↦ omega (arith, length-fewer test xs) | false ↦ omega (arith, length-fewer test xs) ]

text-fewer : (test : Row → Bool) (rows : List Row) → kept_text (filter test rows) ≤ kept_text rows
text-fewer test [] = omega arith
text-fewer test (r ∷ rows) =
    elim (test r) as (λ b. kept_text (cond b (r ∷ filter test rows) (filter test rows)) ≤ kept_text (r ∷ rows)) [
      | true ↦ omega (arith, text-fewer test rows, sum_by-cons (λ (row : Row). text_length row.template) r rows, sum_by-cons (λ (row : Row). text_length row.template) r (filter test rows))
      | false ↦ omega (arith, text-fewer test rows, sum_by-cons (λ (row : Row). text_length row.template) r rows)
    ]

few-rows : (test : Row → Bool) (rows : List Row) (rs : List Accepted) → AreFew rows rs → AreFew (filter test rows) rs
few-rows test rows rs few = record { jobs = (let n = few.jobs in omega (arith, length-fewer test rows)); text = (let n = few.text in omega (arith, text-fewer test rows)); reserved = few.reserved }

few-reservations : (test : Accepted → Bool) (rows : List Row) (rs : List Accepted) → AreFew rows rs → AreFew rows (filter test rs)
few-reservations test rows rs few = record { jobs = few.jobs; text = few.text; reserved = (let n = few.reserved in omega (arith, length-fewer test rs)) }

-- ---- steps that change rows alone

rows-step : (entry : ℕ) (p : Plan) (f : Row → Row) (orders : List Order) → IsFit p → ((r : Row) → (f r).template ≡ r.template) → AllByRecursion (λ r. Goes r (f r)) p.rows
    → PlanStep entry p (record (change_rows entry f p) { orders = orders })
rows-step entry p f orders fit same goes =
    let edges = rows-edges entry p f fit.jobs.rising goes in
    record {
      total = refl;
      queues = refl;
      moment = refl;
      few = few-map f same p.rows p.reservations;
      jobs = omega arith;
      arrays = omega arith;
      reservations = omega arith;
      edges = record { added = edges.added; gained = edges.gained; edges = edges.edges };
    }

course-template : (job : JobId) (course : Course) (r : Row) → (with_course job course r).template ≡ r.template
course-template job course r = elim (is_of job r) as (λ b. (cond b (record r { course = course }) r).template ≡ r.template) [ true ↦ refl | false ↦ refl ]

go_on-step : (entry : ℕ) (p : Plan) (job : JobId) (row : Row) (next : Course) (orders : List Order) → IsFit p → row_of job p.rows ≡ Some row → Goes row (record row { course = next })
    → PlanStep entry p (record (go_on entry row.job next p) { orders = orders })
go_on-step entry p job row next orders fit found goes =
    rows-step entry p (with_course row.job next) orders fit (course-template row.job next)
    (all-implied (λ (r : Row). row_of r.job p.rows ≡ Some r) (λ r. Goes r (with_course row.job next r)) (goes-course row.job p.rows row next (own-job job p row found) goes) p.rows (rising-found p.rows fit.jobs.rising))

control-template : (moment : ℕ) (t : Target) (what : Control) (r : Row) → (control_step moment t what r).template ≡ r.template
control-template moment t what r = control-cases (λ (p q : Row). q.template ≡ p.template) moment t what r refl (λ state e. refl)

pub control-step : (t : Target) (what : Control) (entry : ℕ) (p : Plan) → IsFit p → PlanStep entry p ((control t what).effect entry p)
control-step t what entry p fit =
    let f = control_step p.moment t what in
    rows-step entry p f ((control t what).effect entry p).orders fit (control-template p.moment t what) (all-each (λ r. Goes r (f r)) (goes-control p.moment t what) p.rows)

pub reap-step : (t : Target) (entry : ℕ) (p : Plan) → PlanStep entry p ((reap t).effect entry p)
reap-step t entry p = record {
  total = refl;
  queues = refl;
  moment = refl;
  few = few-rows (λ (row : Row). not (is_meant t row && is_done row)) p.rows p.reservations;
  jobs = omega arith;
  arrays = omega arith;
  reservations = omega arith;
  edges = no-edges entry p ((reap t).effect entry p) refl;
}

-- nothing but the orders changes
orders-step : (entry : ℕ) (p : Plan) (orders : List Order) → PlanStep entry p (record p { orders = orders })
orders-step entry p orders = record {
  total = refl;
  queues = refl;
  moment = refl;
  few = λ few. few;
  jobs = omega arith;
  arrays = omega arith;
  reservations = omega arith;
  edges = no-edges entry p (record p { orders = orders }) refl;
}

pub same-step : (entry : ℕ) (p : Plan) → PlanStep entry p p
same-step entry p = orders-step entry p p.orders

pub signal-step : (entry : ℕ) (p : Plan) → PlanStep entry p (signal.effect entry p)
signal-step entry p = orders-step entry p (signal.effect entry p).orders

pub launch-step : (entry : ℕ) (p : Plan) (row : Row) (slots : ℕ) → IsFit p → next_launch p ≡ Some (row, slots) → PlanStep entry p (launch_row entry row slots p)
launch-step entry p row slots fit first =
    let next = next_launch-is p (row, slots) fit.jobs.rising first in
    let course = launched p.moment slots (planned_end row.wants p.moment) row.course in
    go_on-step entry p row.job row course p.orders fit next.kept (record { edge = λ e. next.state.edge })

-- ---- reports

started-row : (job : JobId) (p : Plan) (row : Row) → IsFit p → row_of job p.rows ≡ Some row → is_idle row.course.phase ≡ false → is_started row.course.state ≡ true
started-row job p row fit found busy = not_idle-started row.wants row.course (row-sound job p row fit found) busy

over-step : (entry : ℕ) (p : Plan) (job : JobId) (row : Row) (next : Course) → IsFit p → row_of job p.rows ≡ Some row → is_idle row.course.phase ≡ false → Stops row.course next → PlanStep entry p (over_row next entry p row)
over-step entry p job row next fit found busy stops =
    go_on-step entry p job row next (orders_without row.job p.orders) fit found
    (record { edge = λ e. over-edge row.course.state next.state (is_asked row.course.kill) (started-row job p row fit found busy) stops.over })

pub report-step : (r : Report) (entry : ℕ) (p : Plan) → IsFit p → (report_of r).refusal p ≡ None → PlanStep entry p ((report_of r).effect entry p)
report-step (report.Started job attempt) entry p fit free = report-leads (PlanStep entry p) (λ p. may_begin attempt) job start_row entry p
    (λ row found may. go_on-step entry p job row (begun row.course) p.orders fit found (goes-same row (record row { course = begun row.course }) refl)) free
report-step (report.StartFailed job attempt) entry p fit free = report-leads (PlanStep entry p) (λ p. may_begin attempt) job unstart_row entry p
    (λ row found may. over-step entry p job row (unstarted p.moment row.wants.rerunnable row.course) fit found (may_begin-busy attempt row.course may) (unstarted-stops p.moment row.wants.rerunnable row.course)) free
report-step (report.Exited job attempt exit) entry p fit free = report-leads (PlanStep entry p) (λ p. may_exit attempt) job (end_row exit) entry p
    (λ row found may. over-step entry p job row (exited p.moment exit row.wants.rerunnable row.course) fit found (may_exit-busy attempt row.course may) (exited-stops p.moment exit row.wants.rerunnable row.course)) free
report-step (report.ExitUnknown job attempt) entry p fit free = report-leads (PlanStep entry p) (λ p. may_exit attempt) job lose_row entry p
    (λ row found may. over-step entry p job row (lost p.moment row.wants.rerunnable row.course) fit found (may_exit-busy attempt row.course may) (lost-stops p.moment row.wants.rerunnable row.course)) free
report-step (report.SignalDone job attempt k) entry p fit free = report-leads (PlanStep entry p) (may_tell attempt job k) job (done_row k) entry p
    (λ row found may. orders-step entry p (drop_first (is_taken row.job k) p.orders)) free
report-step (report.SignalFailed job attempt k) entry p fit free = report-leads (PlanStep entry p) (may_tell attempt job k) job (undone_row k) entry p
    (λ row found may. go_on-step entry p job row (signal_failed k row.course) (drop_first (is_taken row.job k) p.orders) fit found
    (goes-same row (record row { course = signal_failed k row.course }) (failed-marks k row.course).state)) free

-- ---- submission

new-kept : (home : ℕ) (p : Plan) (number : ℕ) (ms : List Member) → kept_text (new_rows home p number ms) ≡ new_text ms
new-kept home p number [] = refl
new-kept home p number (m ∷ ms) =
    omega (
      arith,
      new-kept home p (number + 1) ms,
      sum_by-cons (λ (row : Row). text_length row.template) (new_row home p number m) (new_rows home p (number + 1) ms),
      sum_by-cons (λ (n : Member). text_length n.template) m ms,
    )

arrays-most : (indices : Option Indices) (n : ℕ) → n + arrays_used indices ≤ n + 1
arrays-most None n = omega arith
arrays-most (Some i) n = omega arith

pub submit-step : (home : ℕ) (t : JobTemplate) (indices : Option Indices) (entry : ℕ) (p : Plan) → (submit home t indices).refusal p ≡ None → PlanStep entry p ((submit home t indices).effect entry p)
submit-step home t indices entry p free =
    let may = may-submit t indices p free in
    let ms = members t indices p in
    let rows = new_rows home p p.next_job ms in
    let count = submit-count t indices p may in
    let text : Bool × Refusal = (ltb most_kept_text (kept_text p.rows + new_text ms), OutOfResource resource.KeptText) in
    let one = no_test (ltb most_jobs (length p.rows + length ms), OutOfResource resource.Jobs) (text ∷ []) may.room in
    let two = no_test text [] one.1 in
    let jobs_fit = ltb-false most_jobs (length p.rows + length ms) one.0 in
    let text_fits = ltb-false most_kept_text (kept_text p.rows + new_text ms) two.0 in
    let long : length rows ≡ length ms = length-new home p p.next_job ms in
    let kept : kept_text rows ≡ new_text ms = new-kept home p p.next_job ms in
    record {
      total = refl;
      queues = refl;
      moment = refl;
      few = λ few. record {
        jobs = omega (arith, length-append p.rows rows);
        text = omega (arith, sum_by-append (λ (row : Row). text_length row.template) p.rows rows);
        reserved = few.reserved;
      };
      jobs = (let most = count.1 in omega arith);
      arrays = arrays-most indices p.next_array;
      reservations = omega arith;
      edges = no-edges entry p ((submit home t indices).effect entry p) refl;
    }

-- ---- reservations

pub request-step : (home : ℕ) (t : ReservationTemplate) (entry : ℕ) (p : Plan) → (request home t).refusal p ≡ None → PlanStep entry p ((request home t).effect entry p)
request-step home t entry p free =
    let second_test : Bool × Refusal = (not (is_some (start_in (frame_of p.moment t) p)), DeniedByDrms (denied_at t p)) in
    let first_test : Bool × Refusal = (leb most_reservations (length p.reservations), OutOfResource resource.Reservations) in
    let room = (refusal-append (frame_tests p.moment t) (first_test ∷ second_test ∷ []) free).1 in
    let below = leb-false most_reservations (length p.reservations) (no_test first_test (second_test ∷ []) room).0 in
    record {
      total = refl;
      queues = refl;
      moment = refl;
      few = λ few. record { jobs = few.jobs; text = few.text; reserved = omega (arith, length_push p.reservations (accepted_at home t p (chosen_start t p))) };
      jobs = omega arith;
      arrays = omega arith;
      reservations = omega arith;
      edges = no-edges entry p ((request home t).effect entry p) refl;
    }

lapsed-template : (moment : ℕ) (rs : List Accepted) (r : Row) → (lapsed moment rs r).template ≡ r.template
lapsed-template moment rs r = lapsed-cases (λ (p q : Row). q.template ≡ p.template) moment rs r (λ h. refl) (λ h w n. refl)

called-template : (moment : ℕ) (rs : List Accepted) (r : Row) → (called_in moment rs r).template ≡ r.template
called-template moment rs r = called-cases (λ (p q : Row). q.template ≡ p.template) moment rs r (λ h. refl) (λ h w n. refl)

-- what the rules of time for jobs keep
pub record RulesStep (entry : ℕ) (p q : Plan) : Type 0 where
  pub few : AreFew p.rows p.reservations → AreFew q.rows q.reservations
  pub edges : AddsEdges entry p q

-- the rules of time for jobs, at a moment and with these reservations
rules-step : (entry moment : ℕ) (rs : List Accepted) (p : Plan) → IsRising number_of p.rows → (AreFew p.rows p.reservations → AreFew p.rows rs)
    → RulesStep entry p (call_in (expire entry (record p { moment = moment; reservations = rs })))
rules-step entry moment rs p rising few =
    let f = lapsed moment rs in
    let g = called_in moment rs in
    let edges = rows-edges entry p f rising (all-each (λ r. Goes r (f r)) (goes-lapsed moment rs) p.rows) in
    record {
      few = λ kept. few-map g (called-template moment rs) (map f p.rows) rs (few-map f (lapsed-template moment rs) p.rows rs (few kept));
      edges = record { added = edges.added; gained = edges.gained; edges = edges.edges };
    }

pub end-step : (number : ReservationId) (entry : ℕ) (p : Plan) → IsFit p → PlanStep entry p ((end_reservation number).effect entry p)
end-step number entry p fit =
    let rs = (without_reservation number p).reservations in
    let step = rules-step entry p.moment rs p fit.jobs.rising (few-reservations (is_other number) p.rows p.reservations) in
    record {
      total = refl;
      queues = refl;
      moment = refl;
      few = step.few;
      jobs = omega arith;
      arrays = omega arith;
      reservations = omega arith;
      edges = record { added = step.edges.added; gained = step.edges.gained; edges = step.edges.edges };
    }

-- time itself
pub time-step : (entry at : ℕ) (p : Plan) → IsFit p → RulesStep entry p (advance_plan entry at p)
time-step entry at p fit = rules-step entry (max p.moment at) (let_go (come_to at p)).reservations p fit.jobs.rising (few-reservations (lasts (max p.moment at)) p.rows p.reservations)

-- ---- a named session that is destroyed

pub forget-step : (home entry : ℕ) (p : Plan) → PlanStep entry p (forget_home home p)
forget-step home entry p =
    let stays : Row → Bool = λ (row : Row). not (is_forgotten home row) in
    let left : Row → Row = λ (row : Row). record row { home = left_by home row.home } in
    record {
      total = refl;
      queues = refl;
      moment = refl;
      few = λ few.
          (let rows = few-map left (λ r. refl) (filter stays p.rows) p.reservations (few-rows stays p.rows p.reservations few) in
          record { jobs = rows.jobs; text = rows.text; reserved = (let n = few.reserved in omega (arith, length-map p.reservations (λ (a : Accepted). record a { home = left_by home a.home }))) });
      jobs = omega arith;
      arrays = omega arith;
      reservations = omega arith;
      edges = no-edges entry p (forget_home home p) refl;
    }

-- ---- edges after time

-- time leaves a job's state, or it fails
timed-state : (moment : ℕ) (rs : List Accepted) (r : Row) → ((timed moment rs r).course.state ≡ r.course.state) ⊎ ((timed moment rs r).course.state ≡ Failed)
timed-state moment rs r =
    let kept : (timed moment rs r).course.state ≡ (lapsed moment rs r).course.state = called-cases (λ (p q : Row). q.course.state ≡ p.course.state) moment rs (lapsed moment rs r) (λ h. refl) (λ h s n. refl) in
    elim (lapsed-cases (λ (p q : Row). (q.course.state ≡ p.course.state) ⊎ (q.course.state ≡ Failed)) moment rs r (λ h. inl refl) (λ h w n. inr refl)) [
      | inl same ↦ inl (kept ∙ same)
      | inr over ↦ inr (kept ∙ over)
    ]

-- an edge from the state that a job has once time has come is one from the state that it had
edge-before : (entry at : ℕ) (p : Plan) (change : Change) → IsEdge entry (advance_plan entry at p).rows change → IsEdge entry p.rows change
edge-before entry at p change is =
    let q = let_go (come_to at p) in
    let state : Option Row → JobState = λ (o : Option Row). option_map_or (λ (row : Row). row.course.state) o Undetermined in
    let now : state (option_map (called_in q.moment q.reservations) (option_map (lapsed q.moment q.reservations) (row_of change.job p.rows))) ≡ change.from = sym (ap state (row_of-advance entry at p change.job)) ∙ is.from in
    record {
      edge = is.edge;
      from = (elim (row_of change.job p.rows) as (λ o. state (option_map (called_in q.moment q.reservations) (option_map (lapsed q.moment q.reservations) o)) ≡ change.from → state o ≡ change.from) [
        | None ↦ λ h. h
        | Some r ↦ λ h. elim (timed-state q.moment q.reservations r) [
          | inl same ↦ sym same ∙ h
          | inr over ↦ (let no : may Failed change.to ≡ true = ap (λ (s : JobState). may s change.to) (sym over ∙ h) ∙ is.edge in absurd (false≢true no))
        ]
      ]) now;
      entry_is = is.entry_is;
    }

-- what time adds, and what a call adds then
pub edges-after : (entry at : ℕ) (p next : Plan) → AddsEdges entry p (advance_plan entry at p) → AddsEdges entry (advance_plan entry at p) next → AddsEdges entry p next
edges-after entry at p next first second = record {
  added = first.added ++ second.added;
  gained = second.gained ∙ (ap (λ (cs : List Change). cs ++ second.added) first.gained ∙ append_assoc p.changes first.added second.added);
  edges = all-append (IsEdge entry p.rows) first.added second.added first.edges
      (all-implied (IsEdge entry (advance_plan entry at p).rows) (IsEdge entry p.rows) (edge-before entry at p) second.added second.edges);
}
