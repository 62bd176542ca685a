-- Each step of the machine leads to a world that rests.
use Rattle.std.proofs.Common.{◌≡◌, ℕ, ◌+◌, ◌≤◌, length, Bool, true, false, cond, eqb, leb, ltb, not, ◌&&◌, ◌||◌, inl, inr, List, [], ◌∷◌, ◌++◌, map, filter, Option, Some, None, refl, ◌∙◌, ap, arith}
use Rattle.std.specs.Prelude.{find, is_some}
use Rattle.std.specs.List.{AllByRecursion}
use Rattle.std.specs.Option.{option_map_or}
use Rattle.std.proofs.lemmas.Bool.{and_parts, and_cases, and_left, and_right, or_parts, or_from, lt-ltb, not-false, not_from_true}
use Rattle.job_template.specs.declared.templates.JobTemplate.{JobTemplate}
use Rattle.job_template.specs.declared.templates.ReservationTemplate.{ReservationTemplate}
use Rattle.job_template.specs.Expand.{expanded}
use Rattle.job_template.specs.Frames.{frame_of, frame_tests}
use Rattle.job_template.specs.JobTests.{is_bad_deadline, is_bad_least, slot_tests}
use Rattle.job_template.specs.Wants.{min_slots, max_slots}
use Rattle.drmaa_types.specs.Refusals.{first_refusal}
use Rattle.drmaa_types.specs.States.{is_waiting, is_started}
use Rattle.drmaa_types.specs.declared.identifiers.ReservationId.{ReservationId}
use Rattle.drmaa_types.specs.declared.identifiers.JobId.{JobId}
use Rattle.drmaa_types.specs.declared.queues.QueueSpec.{QueueSpec}
use Rattle.drmaa_types.specs.declared.refusals.Refusal.{Refusal}
use Rattle.drmaa_types.specs.declared.refusals.Refusal.TheVariants.{DeniedByDrms, InvalidArgument, OutOfResource}
use Rattle.drmaa_types.specs.declared.refusals.Limit.TheVariants as resource
use Rattle.drmaa_types.specs.declared.refusals.Which.TheVariants as which
use Rattle.drmaa_types.specs.declared.states.Control.{Control}
use Rattle.drmaa_types.specs.declared.states.SignalKind.{SignalKind}
use Rattle.drmaa_model.specs.declared.calls.Call.{Call}
use Rattle.drmaa_model.specs.declared.calls.Indices.{Indices}
use Rattle.drmaa_model.specs.declared.calls.Report.{Report}
use Rattle.drmaa_model.specs.declared.calls.Report.TheVariants as report
use Rattle.drmaa_model.specs.declared.calls.Target.{Target}
use Rattle.drmaa_model.specs.declared.configs.Config.{Config}
use Rattle.drmaa_model.specs.declared.courses.Course.{Course}
use Rattle.drmaa_model.specs.declared.entries.Entry.{Entry}
use Rattle.drmaa_model.specs.declared.reservations.Accepted.{Accepted}
use Rattle.drmaa_model.specs.declared.rows.Row.{Row}
use Rattle.drmaa_model.specs.AfterLaws.{HoldsAfter, answer-leads}
use Rattle.drmaa_model.specs.Consistent.{IsConsistent}
use Rattle.drmaa_model.specs.Controlling.{control_step, control, is_done}
use Rattle.drmaa_model.specs.Courses.{is_unasked, planned_end, launched, begun, unstarted, exited, lost, signal_failed, submitted_course}
use Rattle.drmaa_model.specs.Effects.{left_by, is_forgotten, forget_home}
use Rattle.drmaa_model.specs.Fit.{IsFit}
use Rattle.drmaa_model.specs.FitLaws.{all-append}
use Rattle.drmaa_model.specs.FrameLaws.{frame-is}
use Rattle.drmaa_model.specs.History.{replay, IsLegal}
use Rattle.drmaa_model.specs.HistoryLaws.{legal-keeps}
use Rattle.drmaa_model.specs.Launching.{launch_row}
use Rattle.drmaa_model.specs.OperationLaws.{no_test, refusal-append, own-job, row-sound}
use Rattle.drmaa_model.specs.NextLaunchLaws.{IsNextLaunch, next_launch-is}
use Rattle.drmaa_model.specs.Plan.{Plan}
use Rattle.drmaa_model.specs.Reporting.{may_begin, may_exit, may_tell, start_row, over_row, unstart_row, end_row, lose_row, done_row, undone_row, report_of}
use Rattle.drmaa_model.specs.ReportLaws.{Stops, report-leads, not_idle-started, may_begin-busy, may_exit-busy, unstarted-stops, exited-stops, lost-stops}
use Rattle.drmaa_model.specs.Requests.{most_reservations, start_in, denied_at, accepted_at, chosen_start, request, request_tests, is_other, end_reservation}
use Rattle.drmaa_model.specs.RequestLaws.{start-is, request-start}
use Rattle.drmaa_model.specs.Resting.{Rests, IsCapped, IsResting}
use Rattle.drmaa_model.specs.RestLaws.{GoesOnResting, runs-free, launched-resting, stopped-resting, marked-resting, control-resting, both-of, resting-from, all-timed, advance-rests, resting-still}
use Rattle.drmaa_model.specs.RowLaws.{all-each, all-implied, all-map, all-filter, all-push, row_of-all, all_with_course}
use Rattle.drmaa_model.specs.Rows.{row_of, go_on}
use Rattle.drmaa_model.specs.Steps.{IsStep}
use Rattle.drmaa_model.specs.StepLaws.{advance-consistent, opening-consistent, step-consistent}
use Rattle.drmaa_model.specs.Submitting.{Member, members, membership, indices_of, new_row, new_rows, submit, submit_tests}
use Rattle.drmaa_model.specs.SubmitLaws.{MaySubmit, may-submit}
use Rattle.drmaa_model.specs.Targets.{is_meant}
use Rattle.drmaa_model.specs.Time.{lasts, is_late, is_over, is_accepted, is_stranded, is_due, advance_plan, advance}
use Rattle.drmaa_model.specs.World.{World}

-- ---- one job goes on

goes-resting : (entry : ℕ) (p : Plan) (row : Row) (next : Course) → IsFit p → row_of row.job p.rows ≡ Some row → IsResting p → GoesOnResting p row next → IsResting (go_on entry row.job next p)
goes-resting entry p row next fit found rests goes = record {
  rows = all_with_course row.job next (Rests p.moment p.reservations) p.rows row fit.jobs.rising found rests.rows goes.rests;
  lasting = rests.lasting;
  capped = all_with_course row.job next IsCapped p.rows row fit.jobs.rising found rests.capped goes.capped;
}

row-rests : (p : Plan) (job : JobId) (row : Row) → IsResting p → row_of job p.rows ≡ Some row → Rests p.moment p.reservations row
row-rests p job row rests found = row_of-all (Rests p.moment p.reservations) job p.rows row rests.rows found

row-capped : (p : Plan) (job : JobId) (row : Row) → IsResting p → row_of job p.rows ≡ Some row → IsCapped row
row-capped p job row rests found = row_of-all IsCapped job p.rows row rests.capped found

launch-resting : (entry : ℕ) (p : Plan) (row : Row) (slots : ℕ) → IsFit p → IsNextLaunch p row slots → IsResting p → IsResting (launch_row entry row slots p)
launch-resting entry p row slots fit next rests =
    goes-resting entry p row (launched p.moment slots (planned_end row.wants p.moment) row.course) fit next.kept rests
    (launched-resting p row slots (row-sound row.job p row fit next.kept) next.state.waits (row-rests p row.job row rests next.kept))

-- ---- reports

start-resting : (job : JobId) (entry : ℕ) (p : Plan) (row : Row) → IsFit p → IsResting p → row_of job p.rows ≡ Some row → IsResting (start_row entry p row)
start-resting job entry p row fit rests found =
    let own = row-rests p job row rests found in
    goes-resting entry p row (begun row.course) fit (own-job job p row found) rests (record { rests = record { waits = own.waits; runs = own.runs }; capped = row-capped p job row rests found })

over-resting : (job : JobId) (entry : ℕ) (p : Plan) (row : Row) (next : Course) → IsFit p → IsResting p → row_of job p.rows ≡ Some row → is_started row.course.state ≡ true → Stops row.course next → IsResting (over_row next entry p row)
over-resting job entry p row next fit rests found started stops =
    let moved = goes-resting entry p row next fit (own-job job p row found) rests (stopped-resting p row next started stops (row-rests p job row rests found) (row-capped p job row rests found)) in
    record { rows = moved.rows; lasting = moved.lasting; capped = moved.capped }

undone-resting : (job : JobId) (k : SignalKind) (entry : ℕ) (p : Plan) (row : Row) → IsFit p → IsResting p → row_of job p.rows ≡ Some row → IsResting (undone_row k entry p row)
undone-resting job k entry p row fit rests found =
    let moved = goes-resting entry p row (signal_failed k row.course) fit (own-job job p row found) rests (marked-resting p row k (row-rests p job row rests found) (row-capped p job row rests found)) in
    record { rows = moved.rows; lasting = moved.lasting; capped = moved.capped }

busy-started : (p : Plan) (job : JobId) (row : Row) (attempt : ℕ) → IsFit p → row_of job p.rows ≡ Some row → may_exit attempt row.course ≡ true → is_started row.course.state ≡ true
busy-started p job row attempt fit found may = not_idle-started row.wants row.course (row-sound job p row fit found) (may_exit-busy attempt row.course may)

reports-rest : (r : Report) (entry : ℕ) (p : Plan) → IsFit p → IsResting p → (report_of r).refusal p ≡ None → IsResting ((report_of r).effect entry p)
reports-rest (report.Started job attempt) entry p fit rests free =
    report-leads IsResting (λ q. may_begin attempt) job start_row entry p (λ row found may. start-resting job entry p row fit rests found) free
reports-rest (report.StartFailed job attempt) entry p fit rests free =
    report-leads IsResting (λ q. may_begin attempt) job unstart_row entry p
    (λ row found may. over-resting job entry p row (unstarted p.moment row.wants.rerunnable row.course) fit rests found
    (not_idle-started row.wants row.course (row-sound job p row fit found) (may_begin-busy attempt row.course may)) (unstarted-stops p.moment row.wants.rerunnable row.course)) free
reports-rest (report.Exited job attempt exit) entry p fit rests free =
    report-leads IsResting (λ q. may_exit attempt) job (end_row exit) entry p
    (λ row found may. over-resting job entry p row (exited p.moment exit row.wants.rerunnable row.course) fit rests found (busy-started p job row attempt fit found may) (exited-stops p.moment exit row.wants.rerunnable row.course)) free
reports-rest (report.ExitUnknown job attempt) entry p fit rests free =
    report-leads IsResting (λ q. may_exit attempt) job lose_row entry p
    (λ row found may. over-resting job entry p row (lost p.moment row.wants.rerunnable row.course) fit rests found (busy-started p job row attempt fit found may) (lost-stops p.moment row.wants.rerunnable row.course)) free
reports-rest (report.SignalDone job attempt kind) entry p fit rests free =
    report-leads IsResting (may_tell attempt job kind) job (done_row kind) entry p (λ row found may. record { rows = rests.rows; lasting = rests.lasting; capped = rests.capped }) free
reports-rest (report.SignalFailed job attempt kind) entry p fit rests free =
    report-leads IsResting (may_tell attempt job kind) job (undone_row kind) entry p (λ row found may. undone-resting job kind entry p row fit rests found) free

-- ---- control calls, and what is forgotten

controls-rest : (t : Target) (what : Control) (entry : ℕ) (p : Plan) → IsResting p → IsResting ((control t what).effect entry p)
controls-rest t what entry p rests =
    resting-from ((control t what).effect entry p)
    (all-map (λ (r : Row). Rests p.moment p.reservations r × IsCapped r) (control_step p.moment t what) p.rows
    (all-implied (λ (r : Row). Rests p.moment p.reservations r × IsCapped r) (λ (r : Row). Rests p.moment p.reservations (control_step p.moment t what r) × IsCapped (control_step p.moment t what r))
    (control-resting p.moment p.reservations t what) p.rows (both-of p rests)))
    rests.lasting

fewer-rest : (test : Row → Bool) (p : Plan) → IsResting p → IsResting (record p { rows = filter test p.rows })
fewer-rest test p rests = record {
  rows = all-filter (Rests p.moment p.reservations) test p.rows rests.rows;
  lasting = rests.lasting;
  capped = all-filter IsCapped test p.rows rests.capped;
}

accepted-left : (home : ℕ) (number : ReservationId) (rs : List Accepted) → is_accepted (map (λ (a : Accepted). record a { home = left_by home a.home }) rs) number ≡ is_accepted rs number
accepted-left home number [] = refl
accepted-left home number (a ∷ rs) =
    elim (eqb a.reservation.0 number.0) as (λ b. is_some (cond b (Some (record a { home = left_by home a.home })) (find (λ (r : Accepted). eqb r.reservation.0 number.0) (map (λ (a : Accepted). record a { home = left_by home a.home }) rs)))
    ≡ is_some (cond b (Some a) (find (λ (r : Accepted). eqb r.reservation.0 number.0) rs))) [
      | true ↦ refl
      | false ↦ accepted-left home number rs
    ]

-- a job is stranded in reservations that other ones have the numbers of, where it is in those
stranded-alike : (rs qs : List Accepted) (row : Row) → ((number : ReservationId) → is_accepted qs number ≡ is_accepted rs number) → is_stranded qs row ≡ is_stranded rs row
stranded-alike rs qs row alike =
    elim row.wants.reservation as (λ o. option_map_or (λ (number : ReservationId). not (is_accepted qs number)) o false ≡ option_map_or (λ (number : ReservationId). not (is_accepted rs number)) o false) [
      | None ↦ refl
      | Some number ↦ ap not (alike number)
    ]

alike-rests : (m : ℕ) (rs qs : List Accepted) (row : Row) → is_stranded qs row ≡ is_stranded rs row → Rests m rs row → Rests m qs row
alike-rests m rs qs row same rests = record {
  waits = ap (λ b. is_waiting row.course.state && (is_late m row || b)) same ∙ rests.waits;
  runs = ap (λ b. is_started row.course.state && (is_unasked row.course.kill && (is_over m row || b))) same ∙ rests.runs;
}

forget-rests : (home : ℕ) (p : Plan) → IsResting p → IsResting (forget_home home p)
forget-rests home p rests =
    let few = fewer-rest (λ (row : Row). not (is_forgotten home row)) p rests in
    let kept = filter (λ (row : Row). not (is_forgotten home row)) p.rows in
    let left : List Accepted = map (λ (a : Accepted). record a { home = left_by home a.home }) p.reservations in
    let same : (r : Row) → is_stranded left r ≡ is_stranded p.reservations r = λ r. stranded-alike p.reservations left r (λ number. accepted-left home number p.reservations) in
    record {
      rows = all-map (Rests p.moment left) (λ (row : Row). record row { home = left_by home row.home }) kept
          (all-implied (Rests p.moment p.reservations) (λ (r : Row). Rests p.moment left (record r { home = left_by home r.home }))
          (λ r is. (let next = alike-rests p.moment p.reservations left r (same r) is in record { waits = next.waits; runs = next.runs })) kept few.rows);
      lasting = all-map (λ (a : Accepted). lasts p.moment a ≡ true) (λ (a : Accepted). record a { home = left_by home a.home }) p.reservations rests.lasting;
      capped = all-map IsCapped (λ (row : Row). record row { home = left_by home row.home }) kept
          (all-implied IsCapped (λ (r : Row). IsCapped (record r { home = left_by home r.home })) (λ r is. is) kept few.capped);
    }

-- ---- submission

not-late : (now : ℕ) (start deadline : Option ℕ) → option_map_or (λ (d : ℕ). leb d now || option_map_or (leb d) start false) deadline false ≡ false → option_map_or (λ (d : ℕ). leb d now) deadline false ≡ false
not-late now start None ok = refl
not-late now start (Some d) ok = (or_parts (leb d now) (option_map_or (leb d) start false) ok).0

-- the deadline of a job that may be submitted is ahead
deadline-ahead : (slots : ℕ) (queues : List QueueSpec) (now : ℕ) (t : JobTemplate) → first_refusal (slot_tests slots queues now t) ≡ None → is_bad_deadline now t ≡ false
deadline-ahead slots queues now t free =
    let third : Bool × Refusal = (is_bad_deadline now t, InvalidArgument which.DeadlineTime) in
    let second : Bool × Refusal = (ltb (max_slots t) (min_slots t), InvalidArgument which.MaxSlots) in
    let one = no_test (is_bad_least slots queues t, InvalidArgument which.MinSlots) (second ∷ third ∷ []) free in
    (no_test third [] (no_test second (third ∷ []) one.1).1).0

-- a job that is submitted with this template, in whatever place
record SuitsNow (p : Plan) (m : Member) : Type 0 where
  late : option_map_or (λ (d : ℕ). leb d p.moment) m.template.deadline_time false ≡ false
  stranded : option_map_or (λ (number : ReservationId). not (is_accepted p.reservations number)) m.template.reservation_id false ≡ false

new-rests : (home : ℕ) (p : Plan) (n : ℕ) (m : Member) → SuitsNow p m → Rests p.moment p.reservations (new_row home p n m) × IsCapped (new_row home p n m)
new-rests home p n m suits =
    let free = or_from (is_late p.moment (new_row home p n m)) (is_stranded p.reservations (new_row home p n m)) suits.late suits.stranded in
    elim m.template.submit_as_hold as (λ b. Rests p.moment p.reservations (record (new_row home p n m) { course = submitted_course b }) × IsCapped (record (new_row home p n m) { course = submitted_course b })) [
      | true ↦ (record { waits = free; runs = refl }, λ started. absurd (cc))
      | false ↦ (record { waits = free; runs = refl }, λ started. absurd (cc))
    ]

all-new : (home : ℕ) (p : Plan) (n : ℕ) (ms : List Member) → AllByRecursion (SuitsNow p) ms → AllByRecursion (λ (r : Row). Rests p.moment p.reservations r × IsCapped r) (new_rows home p n ms)
all-new home p n [] suits = tt
all-new home p n (m ∷ ms) suits = (new-rests home p n m suits.0, all-new home p (n + 1) ms suits.1)

suit-now : (t : JobTemplate) (indices : Option Indices) (p : Plan) → MaySubmit t indices p → AllByRecursion (SuitsNow p) (members t indices p)
suit-now t None p may = (record { late = not-late p.moment t.start_time t.deadline_time (deadline-ahead p.total p.queues p.moment t may.slots); stranded = may.named }, tt)
suit-now t (Some i) p may =
    let made : ℕ → Member = λ index. record { template = expanded index t; membership = membership i p index } in
    all-map (SuitsNow p) made (indices_of i)
    (all-each (λ (index : ℕ). SuitsNow p (made index)) (λ index. record { late = not-late p.moment t.start_time t.deadline_time (deadline-ahead p.total p.queues p.moment t may.slots); stranded = may.named }) (indices_of i))

submits-rest : (home : ℕ) (t : JobTemplate) (indices : Option Indices) (entry : ℕ) (p : Plan) → IsResting p → first_refusal (submit_tests t indices p) ≡ None → IsResting ((submit home t indices).effect entry p)
submits-rest home t indices entry p rests free =
    let may = may-submit t indices p free in
    resting-from ((submit home t indices).effect entry p)
    (all-append (λ (r : Row). Rests p.moment p.reservations r × IsCapped r) p.rows (new_rows home p p.next_job (members t indices p)) (both-of p rests) (all-new home p p.next_job (members t indices p) (suit-now t indices p may)))
    rests.lasting

-- ---- reservations

accepted-more : (rs : List Accepted) (a : Accepted) (number : ReservationId) → is_accepted rs number ≡ true → is_accepted (rs ++ a ∷ []) number ≡ true
accepted-more [] a number is = absurd (cc)
accepted-more (r ∷ rs) a number is =
    (elim (eqb r.reservation.0 number.0) as (λ b. is_some (cond b (Some r) (find (λ (q : Accepted). eqb q.reservation.0 number.0) rs)) ≡ true
    → is_some (cond b (Some r) (find (λ (q : Accepted). eqb q.reservation.0 number.0) (rs ++ a ∷ []))) ≡ true) [
      | true ↦ λ h. h
      | false ↦ λ h. accepted-more rs a number h
    ]) is

stranded-more : (rs : List Accepted) (a : Accepted) (row : Row) → is_stranded rs row ≡ false → is_stranded (rs ++ a ∷ []) row ≡ false
stranded-more rs a row =
    elim row.wants.reservation as (λ o. option_map_or (λ (number : ReservationId). not (is_accepted rs number)) o false ≡ false → option_map_or (λ (number : ReservationId). not (is_accepted (rs ++ a ∷ []) number)) o false ≡ false) [
      | None ↦ λ h. refl
      | Some number ↦ λ h. not_from_true (is_accepted (rs ++ a ∷ []) number) (accepted-more rs a number (not-false (is_accepted rs number) h))
    ]

-- what a job rests in is more
more-rests : (m : ℕ) (rs : List Accepted) (a : Accepted) (row : Row) → Rests m rs row → Rests m (rs ++ a ∷ []) row
more-rests m rs a row rests = record {
  waits =
      (elim (is_waiting row.course.state) as (λ b. (b && (is_late m row || is_stranded rs row)) ≡ false → (b && (is_late m row || is_stranded (rs ++ a ∷ []) row)) ≡ false) [
        | true ↦ λ h. (let both = or_parts (is_late m row) (is_stranded rs row) h in or_from (is_late m row) (is_stranded (rs ++ a ∷ []) row) both.0 (stranded-more rs a row both.1))
        | false ↦ λ h. refl
      ]) rests.waits;
  runs =
      (elim (is_started row.course.state && is_unasked row.course.kill) as (λ b. (is_started row.course.state && is_unasked row.course.kill) ≡ b → is_due m (rs ++ a ∷ []) row ≡ false) [
        | true ↦ λ e.
            (let parts = and_parts (is_started row.course.state) (is_unasked row.course.kill) e in
            let both = runs-free m rs row rests parts.0 parts.1 in
            and_right (is_started row.course.state) _ (and_right (is_unasked row.course.kill) _ (or_from (is_over m row) (is_stranded (rs ++ a ∷ []) row) both.0 (stranded-more rs a row both.1))))
        | false ↦ λ e.
            (elim (and_cases (is_started row.course.state) (is_unasked row.course.kill) e) [
              | inl h ↦ and_left (is_started row.course.state) _ h
              | inr h ↦ and_right (is_started row.course.state) _ (and_left (is_unasked row.course.kill) _ h)
            ])
      ]) refl;
}

requests-rest : (home : ℕ) (t : ReservationTemplate) (entry : ℕ) (p : Plan) → IsResting p → first_refusal (request_tests t p) ≡ None → IsResting ((request home t).effect entry p)
requests-rest home t entry p rests free =
    let f = frame_of p.moment t in
    let from = chosen_start t p in
    let second : Bool × Refusal = (not (is_some (start_in f p)), DeniedByDrms (denied_at t p)) in
    let first : Bool × Refusal = (leb most_reservations (length p.reservations), OutOfResource resource.Reservations) in
    let frame = frame-is p.moment t (refusal-append (frame_tests p.moment t) (first ∷ second ∷ []) free).0 in
    let start = start-is f p from (request-start home t p free) in
    let a = accepted_at home t p from in
    let since = frame.since in let lasting = frame.lasting in let later = start.since in
    record {
      rows = all-implied (Rests p.moment p.reservations) (Rests p.moment (p.reservations ++ a ∷ [])) (more-rests p.moment p.reservations a) p.rows rests.rows;
      lasting = all-push (λ (b : Accepted). lasts p.moment b ≡ true) p.reservations a rests.lasting (lt-ltb p.moment (from + f.span) (omega arith));
      capped = rests.capped;
    }

ends-rest : (number : ReservationId) (entry : ℕ) (p : Plan) → IsResting p → IsResting ((end_reservation number).effect entry p)
ends-rest number entry p rests =
    resting-from ((end_reservation number).effect entry p) (all-timed p.moment (filter (is_other number) p.reservations) p.rows rests.capped)
    (all-filter (λ (a : Accepted). lasts p.moment a ≡ true) (is_other number) p.reservations rests.lasting)

-- ---- steps

-- each operation leads to a plan that rests
after-rests : (v : World) (c : Call) → IsConsistent v → IsResting v.plan → HoldsAfter v c IsResting
after-rests v c ok rests = record {
  same = rests;
  forgets = λ home. forget-rests home v.plan rests;
  submits = λ home t indices free. submits-rest home t indices (v.entries + 1) v.plan rests free;
  controls = λ meant what. controls-rest meant what (v.entries + 1) v.plan rests;
  reaps = λ meant. fewer-rest (λ (row : Row). not (is_meant meant row && is_done row)) v.plan rests;
  requests = λ home t free. requests-rest home t (v.entries + 1) v.plan rests free;
  ends = λ number. ends-rest number (v.entries + 1) v.plan rests;
  launches = λ asked next is. launch-resting (v.entries + 1) v.plan next.0 next.1 ok.fit (next_launch-is v.plan next ok.fit.jobs.rising is) rests;
  signals = record { rows = rests.rows; lasting = rests.lasting; capped = rests.capped };
  reports = λ r free. reports-rest r (v.entries + 1) v.plan ok.fit rests free;
}

-- a step from a world that rests leads to one that rests
pub step-rests : (w : World) (entry : Entry) (next : World) → IsConsistent w → IsResting w.plan → IsStep w entry next → IsResting next.plan
step-rests w entry next ok rests step =
    let v = advance w entry.at in
    answer-leads entry.at v entry.call IsResting (after-rests v entry.call (advance-consistent w entry.at ok) (advance-rests (w.entries + 1) entry.at w.plan rests.capped)) entry.reply next step.answered

pub legal-rests : (config : Config) (history : List Entry) → IsLegal config history → IsResting (replay config history).plan
legal-rests config history legal =
    (legal-keeps config (λ (w : World). IsConsistent w × IsResting w.plan) (opening-consistent config, record { rows = tt; lasting = tt; capped = tt })
    (λ w entry next both step. (step-consistent w entry next both.0 step, step-rests w entry next both.0 both.1 step)) history legal).1

-- Time leaves the world of a legal history as it is, at its own moment and before it.
pub legal-still : (config : Config) (history : List Entry) (entry at : ℕ) → IsLegal config history → at ≤ (replay config history).plan.moment → advance_plan entry at (replay config history).plan ≡ (replay config history).plan
legal-still config history entry at legal early = resting-still entry at (replay config history).plan early (legal-rests config history legal)
