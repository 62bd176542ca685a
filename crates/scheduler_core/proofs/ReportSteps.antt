-- What the move of a report comes to.
use Rattle.std.proofs.Common.{◌≡◌, ℕ, ◌+◌, ◌-◌, ◌≤◌, Bool, true, false, cond, ◌&&◌, ◌||◌, ◌==◌, List, [], ◌∷◌, ◌++◌, map, filter, Some, None, refl, sym, ◌∙◌, ap, subst, arith, append-nil}
use Rattle.std.specs.List.{AllByRecursion, list_any, flat_map}
use Rattle.std.specs.Option.{option_map}
use Rattle.std.proofs.lemmas.Bool.{eqb-true, eq-eqb}
use Rattle.drmaa_types.specs.States.{is_state, is_waiting, is_started, state_number}
use Rattle.drmaa_types.specs.declared.changes.Change.{Change}
use Rattle.drmaa_types.specs.declared.identifiers.JobId.{JobId}
use Rattle.drmaa_types.specs.declared.refusals.Refusal.TheVariants.{InvalidArgument, InvalidState}
use Rattle.drmaa_types.specs.declared.refusals.Which.TheVariants as which
use Rattle.drmaa_types.specs.declared.states.JobState.{JobState}
use Rattle.drmaa_types.specs.declared.states.JobState.TheVariants.{Undetermined, Queued, QueuedHeld, Running, Suspended, Requeued, RequeuedHeld, Done, Failed}
use Rattle.drmaa_types.specs.declared.states.SignalKind.{SignalKind}
use Rattle.drmaa_types.specs.declared.states.SignalKind.TheVariants.{Stop, Cont, Kill}
use Rattle.drmaa_model.specs.declared.calls.Report.{Report}
use Rattle.drmaa_model.specs.declared.calls.Report.TheVariants as report
use Rattle.drmaa_model.specs.declared.courses.Course.{Course}
use Rattle.drmaa_model.specs.declared.courses.Order.{Order}
use Rattle.drmaa_model.specs.declared.rows.Row.{Row}
use Rattle.drmaa_model.specs.Courses.{begun, unstarted, exited, lost, signal_failed, is_unasked}
use Rattle.drmaa_model.specs.Fit.{IsFit}
use Rattle.drmaa_model.specs.FitLaws.{not-using}
use Rattle.drmaa_model.specs.OperationLaws.{own-job, row-sound}
use Rattle.drmaa_model.specs.Plan.{Plan}
use Rattle.drmaa_model.specs.Reporting.{report_of, reported, is_taken, is_idle, start_row, unstart_row, end_row, lose_row, done_row, undone_row}
use Rattle.drmaa_model.specs.ReportLaws.{report-lost, report-stray, report-free, report-effect, report-keeps, not_idle-started, may_begin-busy, may_exit-busy, unstarted-stops, exited-stops, lost-stops}
use Rattle.drmaa_model.specs.RowLaws.{all-implied, rising-found, changes_with_course}
use Rattle.drmaa_model.specs.Rows.{row_of, is_of, with_course, change_of, go_on}
use Rattle.drmaa_model.specs.Time.{kill_order, advance_plan, expire, let_go, come_to, is_due}
use Rattle.drmaa_model.specs.declared.reservations.Accepted.{Accepted}
use Rattle.reservation_calendar.specs.declared.bookings.Booking.{Booking}
use Rattle.reservation_calendar.specs.Schedules.{Schedule}
use Rattle.plan_book.specs.declared.moves.Move.{Move}
use Rattle.plan_book.specs.declared.rows.Facts.{Facts}
use Rattle.plan_book.specs.Book.{IsMove, moved, owes, owes_kill}
use Rattle.plan_book.specs.Facts.{facts_of}
use Rattle.plan_book.specs.TieLaws.{tied-same, tied-cancelled}
use Rattle.plan_book.specs.Ties.{KeepsTie, MayMake, IsBeside, counted_of}
use Rattle.scheduler_core.specs.Reports.{job_of, may_report, booked_after, report_move}
use Rattle.scheduler_core.proofs.Steps.{read-row, Makes, IsFree}

-- ---- the report as an operation

pub effect_of : Report → ℕ → Plan → Row → Plan
effect_of (report.Started job attempt) = start_row
effect_of (report.StartFailed job attempt) = unstart_row
effect_of (report.Exited job attempt exit) = end_row exit
effect_of (report.ExitUnknown job attempt) = lose_row
effect_of (report.SignalDone job attempt kind) = done_row kind
effect_of (report.SignalFailed job attempt kind) = undone_row kind

pub report-is : (r : Report) → report_of r ≡ reported (λ (p : Plan). may_report r p.orders) (job_of r) (effect_of r)
unfolding effect_of
report-is (report.Started job attempt) = refl
report-is (report.StartFailed job attempt) = refl
report-is (report.Exited job attempt exit) = refl
report-is (report.ExitUnknown job attempt) = refl
report-is (report.SignalDone job attempt kind) = refl
report-is (report.SignalFailed job attempt kind) = refl

-- ---- time asks for no order that is handed out

none-killed : (job : JobId) (kind : SignalKind) (rows : List Row) → list_any (is_taken job kind) (map kill_order rows) ≡ false
none-killed job kind [] = refl
none-killed job kind (row ∷ rows) = none-killed job kind rows

any-kept : (job : JobId) (kind : SignalKind) (orders : List Order) (rows : List Row) → list_any (is_taken job kind) orders ≡ list_any (is_taken job kind) (orders ++ map kill_order rows)
any-kept job kind [] rows = sym (none-killed job kind rows)
any-kept job kind (o ∷ orders) rows = ap (λ b. is_taken job kind o || b) (any-kept job kind orders rows)

may-report-kills : (r : Report) (orders : List Order) (rows : List Row) (course : Course) → may_report r orders course ≡ may_report r (orders ++ map kill_order rows) course
may-report-kills (report.Started job attempt) orders rows course = refl
may-report-kills (report.StartFailed job attempt) orders rows course = refl
may-report-kills (report.Exited job attempt exit) orders rows course = refl
may-report-kills (report.ExitUnknown job attempt) orders rows course = refl
may-report-kills (report.SignalDone job attempt kind) orders rows course = ap (λ b. (course.attempt == attempt) && b) (any-kept job kind orders rows)
may-report-kills (report.SignalFailed job attempt kind) orders rows course = ap (λ b. (course.attempt == attempt) && b) (any-kept job kind orders rows)

pub may-report-then : (r : Report) (entry at : ℕ) (p : Plan) (course : Course) → may_report r p.orders course ≡ may_report r (advance_plan entry at p).orders course
may-report-then r entry at p course =
    let e = expire entry (let_go (come_to at p)) in
    may-report-kills r p.orders (filter (is_due e.moment e.reservations) e.rows) course

-- ---- a job that goes on by its own course stays

state-same : (s : JobState) → is_state s s ≡ true
state-same s = eq-eqb (state_number s) (state_number s) refl

map-same : (f : Row → Row) (rows : List Row) → AllByRecursion (λ r. f r ≡ r) rows → map f rows ≡ rows
map-same f [] all = refl
map-same f (r ∷ rows) all = ap (λ (x : Row). x ∷ map f rows) all.0 ∙ ap (λ xs. r ∷ xs) (map-same f rows all.1)

own-course : (q : Plan) (row r : Row) → row_of row.job q.rows ≡ Some row → row_of r.job q.rows ≡ Some r → with_course row.job row.course r ≡ r
own-course q row r found kept =
    (elim (is_of row.job r) as (λ t. is_of row.job r ≡ t → cond t (record r { course = row.course }) r ≡ r) [
      | false ↦ λ e. refl
      | true ↦ λ e.
          (let own : r.job ≡ row.job = ap (λ (n : ℕ). let j : JobId = record { 0 = n } in j) (eqb-true r.job.0 row.job.0 e) in
          let there : row_of row.job q.rows ≡ Some r = subst (λ (j : JobId). row_of j q.rows ≡ Some r) own kept in
          let same : row ≡ r = cc in
          ap (λ (x : Row). let y : Row = record r { course = x.course } in y) same)
    ]) refl

go_on-same : (entry : ℕ) (q : Plan) (row : Row) → IsFit q → row_of row.job q.rows ≡ Some row → go_on entry row.job row.course q ≡ q
go_on-same entry q row fit found =
    let rows : map (with_course row.job row.course) q.rows ≡ q.rows =
    map-same (with_course row.job row.course) q.rows
    (all-implied (λ (r : Row). row_of r.job q.rows ≡ Some r) (λ (r : Row). with_course row.job row.course r ≡ r) (λ r kept. own-course q row r found kept) q.rows (rising-found q.rows fit.jobs.rising)) in
    let none : change_of entry row row ≡ [] = ap (λ b. cond b [] (record { entry = entry; job = row.job; home = row.home; from = row.course.state; to = row.course.state } ∷ [])) (state-same row.course.state) in
    let changes : q.changes ++ flat_map (λ r. change_of entry r (with_course row.job row.course r)) q.rows ≡ q.changes =
    ap (λ (cs : List Change). q.changes ++ cs) (changes_with_course row.job row.course entry q.rows row fit.jobs.rising found ∙ none) ∙ append-nil q.changes in
    ap (λ (rs : List Row). let x : Plan = record q { rows = rs; changes = q.changes ++ flat_map (λ r. change_of entry r (with_course row.job row.course r)) q.rows } in x) rows
    ∙ ap (λ (cs : List Change). let x : Plan = record q { changes = cs } in x) changes

-- ---- the effect of a report is its move

made-of : (r : Report) (entry : ℕ) (q : Plan) (row : Row) → IsFit q → row_of row.job q.rows ≡ Some row → effect_of r entry q row ≡ moved entry (report_move r q.moment (facts_of row)) q
unfolding effect_of
made-of (report.Started job attempt) entry q row fit found = refl
made-of (report.StartFailed job attempt) entry q row fit found = refl
made-of (report.Exited job attempt exit) entry q row fit found = refl
made-of (report.ExitUnknown job attempt) entry q row fit found = refl
made-of (report.SignalDone job attempt kind) entry q row fit found =
    sym (ap (λ (x : Plan). done_row kind entry (record x { orders = q.orders }) row) (go_on-same entry q row fit found))
made-of (report.SignalFailed job attempt kind) entry q row fit found = refl

-- ---- the calendar

marked-counted : (f : Booking → ℕ) (k : SignalKind) (row : Row) → counted_of f (record row { course = signal_failed k row.course }) ≡ counted_of f row
marked-counted f Stop row = refl
marked-counted f Cont row = refl
marked-counted f Kill row = refl

ties-of : (r : Report) (entry : ℕ) (q : Plan) (row : Row) → IsFit q → row_of row.job q.rows ≡ Some row
    → KeepsTie (report_move r q.moment (facts_of row)).booked row.job q (moved entry (report_move r q.moment (facts_of row)) q)
ties-of (report.Started job attempt) entry q row fit found =
    record { keeps = λ s tied. tied-same row.job (begun row.course) q row fit found (moved entry (report_move (report.Started job attempt) q.moment (facts_of row)) q) refl refl refl (λ f. refl) s tied }
ties-of (report.StartFailed job attempt) entry q row fit found =
    record {
      keeps = λ s tied. tied-cancelled row.job (unstarted q.moment row.wants.rerunnable row.course) q row fit found (moved entry (report_move (report.StartFailed job attempt) q.moment (facts_of row)) q) refl refl refl
          (not-using (record row { course = unstarted q.moment row.wants.rerunnable row.course }) (unstarted-stops q.moment row.wants.rerunnable row.course).over.stopped) s tied;
    }
ties-of (report.Exited job attempt exit) entry q row fit found =
    record {
      keeps = λ s tied. tied-cancelled row.job (exited q.moment exit row.wants.rerunnable row.course) q row fit found (moved entry (report_move (report.Exited job attempt exit) q.moment (facts_of row)) q) refl refl refl
          (not-using (record row { course = exited q.moment exit row.wants.rerunnable row.course }) (exited-stops q.moment exit row.wants.rerunnable row.course).over.stopped) s tied;
    }
ties-of (report.ExitUnknown job attempt) entry q row fit found =
    record {
      keeps = λ s tied. tied-cancelled row.job (lost q.moment row.wants.rerunnable row.course) q row fit found (moved entry (report_move (report.ExitUnknown job attempt) q.moment (facts_of row)) q) refl refl refl
          (not-using (record row { course = lost q.moment row.wants.rerunnable row.course }) (lost-stops q.moment row.wants.rerunnable row.course).over.stopped) s tied;
    }
ties-of (report.SignalDone job attempt kind) entry q row fit found =
    record { keeps = λ s tied. tied-same row.job row.course q row fit found (moved entry (report_move (report.SignalDone job attempt kind) q.moment (facts_of row)) q) refl refl refl (λ f. refl) s tied }
ties-of (report.SignalFailed job attempt kind) entry q row fit found =
    record { keeps = λ s tied. tied-same row.job (signal_failed kind row.course) q row fit found (moved entry (report_move (report.SignalFailed job attempt kind) q.moment (facts_of row)) q) refl refl refl (λ f. marked-counted f kind row) s tied }

-- ---- the room

started-not_waiting : (s : JobState) → is_started s ≡ true → is_waiting s ≡ false
started-not_waiting Undetermined h = refl
started-not_waiting Queued h = absurd (cc)
started-not_waiting QueuedHeld h = absurd (cc)
started-not_waiting Running h = refl
started-not_waiting Suspended h = refl
started-not_waiting Requeued h = absurd (cc)
started-not_waiting RequeuedHeld h = absurd (cc)
started-not_waiting Done h = refl
started-not_waiting Failed h = refl

owes-started : (course : Course) → is_started course.state ≡ true → owes course ≡ 2
owes-started course is =
    ap (λ b. cond {A = ℕ} b 1 (cond (is_started course.state) 2 0)) (started-not_waiting course.state is) ∙ ap (λ b. cond {A = ℕ} b 2 0) is

owes-stopped : (course : Course) → is_started course.state ≡ false → owes course ≤ 1
owes-stopped course is =
    elim (is_waiting course.state) as (λ b. cond b 1 (cond (is_started course.state) 2 0) ≤ 1) [
      | true ↦ omega arith
      | false ↦ (let none : cond {A = ℕ} (is_started course.state) 2 0 ≡ 0 = ap (λ b. cond {A = ℕ} b 2 0) is in omega (arith, none))
    ]

changed-most : (b : Bool) → cond {A = ℕ} b 0 1 ≤ 1
changed-most true = omega arith
changed-most false = omega arith

over-grows : (before next : Course) → is_started before.state ≡ true → is_started next.state ≡ false → (owes next + cond {A = ℕ} (is_state before.state next.state) 0 1) - owes before ≡ 0
over-grows before next starts stops =
    (let two = owes-started before starts in let one = owes-stopped next stops in let change = changed-most (is_state before.state next.state) in omega (arith, two, one, change))

over-asks : (before next : Course) → is_started next.state ≡ false → (owes_kill next + 0) - owes_kill before ≡ 0
over-asks before next stops = (let none : owes_kill next ≡ 0 = ap (λ b. cond {A = ℕ} (b && is_unasked next.kill) 1 0) stops in omega (arith, none))

same-grows : (before next : Course) → next.state ≡ before.state → (owes next + cond {A = ℕ} (is_state before.state next.state) 0 1) - owes before ≡ 0
same-grows before next same =
    (let owe : owes next ≡ owes before = ap (λ (s : JobState). cond {A = ℕ} (is_waiting s) 1 (cond (is_started s) 2 0)) same in
    let stay : cond {A = ℕ} (is_state before.state next.state) 0 1 ≡ 0 = ap (λ (s : JobState). cond {A = ℕ} (is_state before.state s) 0 1) same ∙ ap (λ b. cond {A = ℕ} b 0 1) (state-same before.state) in
    omega (arith, owe, stay))

asks-same : (n : ℕ) → (n + 0) - n ≡ 0
asks-same n = omega arith

marked-asks : (k : SignalKind) (course : Course) → (owes_kill (signal_failed k course) + 0) - owes_kill course ≡ 0
marked-asks Stop course = asks-same (owes_kill course)
marked-asks Cont course = asks-same (owes_kill course)
marked-asks Kill course = (let none : cond {A = ℕ} (is_started course.state && false) 1 0 ≡ 0 = elim (is_started course.state) as (λ b. cond {A = ℕ} (b && false) 1 0 ≡ 0) [ true ↦ refl | false ↦ refl ] in omega (arith, none))

marked-state : (k : SignalKind) (course : Course) → (signal_failed k course).state ≡ course.state
marked-state Stop course = refl
marked-state Cont course = refl
marked-state Kill course = refl

starts-of : (job : JobId) (q : Plan) (row : Row) → IsFit q → row_of job q.rows ≡ Some row → is_idle row.course.phase ≡ false → is_started row.course.state ≡ true
starts-of job q row fit found busy = not_idle-started row.wants row.course (row-sound job q row fit found) busy

frees : (r : Report) (q : Plan) (row : Row) → IsFit q → row_of row.job q.rows ≡ Some row → may_report r q.orders row.course ≡ true → IsFree (report_move r q.moment (facts_of row))
frees (report.Started job attempt) q row fit found may = record { changes = same-grows row.course (begun row.course) refl; orders = asks-same (owes_kill row.course); books = refl }
frees (report.StartFailed job attempt) q row fit found may =
    let next = unstarted q.moment row.wants.rerunnable row.course in
    let stops = (unstarted-stops q.moment row.wants.rerunnable row.course).over.stopped in
    record { changes = over-grows row.course next (starts-of row.job q row fit found (may_begin-busy attempt row.course may)) stops; orders = over-asks row.course next stops; books = refl }
frees (report.Exited job attempt exit) q row fit found may =
    let next = exited q.moment exit row.wants.rerunnable row.course in
    let stops = (exited-stops q.moment exit row.wants.rerunnable row.course).over.stopped in
    record { changes = over-grows row.course next (starts-of row.job q row fit found (may_exit-busy attempt row.course may)) stops; orders = over-asks row.course next stops; books = refl }
frees (report.ExitUnknown job attempt) q row fit found may =
    let next = lost q.moment row.wants.rerunnable row.course in
    let stops = (lost-stops q.moment row.wants.rerunnable row.course).over.stopped in
    record { changes = over-grows row.course next (starts-of row.job q row fit found (may_exit-busy attempt row.course may)) stops; orders = over-asks row.course next stops; books = refl }
frees (report.SignalDone job attempt kind) q row fit found may = record { changes = same-grows row.course row.course refl; orders = asks-same (owes_kill row.course); books = refl }
frees (report.SignalFailed job attempt kind) q row fit found may =
    record { changes = same-grows row.course (signal_failed kind row.course) (marked-state kind row.course); orders = marked-asks kind row.course; books = refl }

-- ---- what is known of a report that is taken

module _ (r : Report) (entry : ℕ) (q : Plan) (facts : Facts) (m : Move) (fit : IsFit q)
    (said : Some facts ≡ option_map facts_of (row_of (job_of r) q.rows)) (may : may_report r q.orders facts.course ≡ true) (is : m ≡ report_move r q.moment facts) where
  test : Plan → Course → Bool
  test p = may_report r p.orders

  pub report-makes : Makes (report_of r) entry q m
  unfolding test
  report-makes =
      let read = read-row (job_of r) q.rows facts said in
      let row = read.row in
      let found = own-job (job_of r) q row read.found in
      let same : m ≡ report_move r q.moment (facts_of row) = is ∙ ap (report_move r q.moment) read.read in
      let meets : may_report r q.orders row.course ≡ true = sym (ap (λ (f : Facts). may_report r q.orders f.course) read.read) ∙ may in
      let free : (report_of r).refusal q ≡ None = ap (λ op. op.refusal q) (report-is r) ∙ report-free test (job_of r) (effect_of r) q row read.found meets in
      let effect : (report_of r).effect entry q ≡ moved entry m q =
      ap (λ op. op.effect entry q) (report-is r) ∙ report-effect test (job_of r) (effect_of r) q entry row read.found ∙ made-of r entry q row fit found ∙ ap (λ (x : Move). moved entry x q) (sym same) in
      record {
        is = subst (IsMove q) (sym same) (record { row = row; found = found; home = refl; before = refl });
        free = free;
        effect = effect;
        ties = subst (λ (x : Move). KeepsTie x.booked x.job q (moved entry x q)) (sym same) (ties-of r entry q row fit found);
        fits = subst IsFit effect ((report-keeps r).keeps entry q fit free);
      }

  pub report-frees : IsFree m
  report-frees =
      let read = read-row (job_of r) q.rows facts said in
      let row = read.row in
      let same : m ≡ report_move r q.moment (facts_of row) = is ∙ ap (report_move r q.moment) read.read in
      let meets : may_report r q.orders row.course ≡ true = sym (ap (λ (f : Facts). may_report r q.orders f.course) read.read) ∙ may in
      subst IsFree (sym same) (frees r q row fit (own-job (job_of r) q row read.found) meets)

-- ---- what is refused

pub report-unkept : (r : Report) (q : Plan) → row_of (job_of r) q.rows ≡ None → (report_of r).refusal q ≡ Some (InvalidArgument which.Job)
report-unkept r q lost = ap (λ op. op.refusal q) (report-is r) ∙ report-lost (λ (p : Plan). may_report r p.orders) (job_of r) (effect_of r) q lost

pub report-barred : (r : Report) (q : Plan) (facts : Facts) → Some facts ≡ option_map facts_of (row_of (job_of r) q.rows) → may_report r q.orders facts.course ≡ false
    → (report_of r).refusal q ≡ Some (InvalidState facts.course.state)
report-barred r q facts said bars =
    let read = read-row (job_of r) q.rows facts said in
    let bars' : may_report r q.orders read.row.course ≡ false = sym (ap (λ (f : Facts). may_report r q.orders f.course) read.read) ∙ bars in
    ap (λ op. op.refusal q) (report-is r) ∙ report-stray (λ (p : Plan). may_report r p.orders) (job_of r) (effect_of r) q read.row read.found bars'
    ∙ sym (ap (λ (f : Facts). Some (InvalidState f.course.state)) read.read)

-- ---- no report books

pub report-may : (s : Schedule) (r : Report) → MayMake s (booked_after r)
report-may s (report.Started job attempt) = tt
report-may s (report.StartFailed job attempt) = tt
report-may s (report.Exited job attempt exit) = tt
report-may s (report.ExitUnknown job attempt) = tt
report-may s (report.SignalDone job attempt kind) = tt
report-may s (report.SignalFailed job attempt kind) = tt

pub report-beside : (rs : List Accepted) (r : Report) → IsBeside rs (booked_after r)
report-beside rs (report.Started job attempt) = tt
report-beside rs (report.StartFailed job attempt) = tt
report-beside rs (report.Exited job attempt exit) = tt
report-beside rs (report.ExitUnknown job attempt) = tt
report-beside rs (report.SignalDone job attempt kind) = tt
report-beside rs (report.SignalFailed job attempt kind) = tt
