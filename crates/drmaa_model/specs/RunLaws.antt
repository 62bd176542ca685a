-- Laws of runs, first half: no call but a launch raises the number of a job's launches, or wakes a job that is idle.
use Rattle.std.proofs.Common.{◌≡◌, ℕ, ◌+◌, ◌≤◌, true, false, cond, not, ◌&&◌, List, [], ◌∷◌, map, filter, Option, Some, None, refl, sym, subst, arith}
use Rattle.std.specs.List.{AllByRecursion}
use Rattle.std.specs.Option.{option_map_or}
use Rattle.std.proofs.lemmas.Bool.{eqb-true}
use Rattle.drmaa_types.specs.States.{is_started, after_control}
use Rattle.drmaa_types.specs.declared.identifiers.JobId.{JobId}
use Rattle.drmaa_types.specs.declared.states.Control.{Control}
use Rattle.drmaa_types.specs.declared.states.Control.TheVariants as control
use Rattle.drmaa_types.specs.declared.states.JobState.{JobState}
use Rattle.drmaa_types.specs.declared.states.Note.TheVariants as note
use Rattle.drmaa_types.specs.declared.states.SignalKind.{SignalKind}
use Rattle.drmaa_types.specs.declared.states.SignalKind.TheVariants as signal
use Rattle.drmaa_model.specs.declared.calls.Call.{Call}
use Rattle.drmaa_model.specs.declared.calls.Call.TheVariants as call
use Rattle.drmaa_model.specs.declared.calls.Report.{Report}
use Rattle.drmaa_model.specs.declared.calls.Report.TheVariants as report
use Rattle.drmaa_model.specs.declared.calls.Target.{Target}
use Rattle.drmaa_model.specs.declared.courses.Course.{Course}
use Rattle.drmaa_model.specs.declared.replies.Reply.{Reply}
use Rattle.drmaa_model.specs.declared.rows.Row.{Row}
use Rattle.drmaa_model.specs.AfterLaws.{HoldsAfter, answer-leads}
use Rattle.drmaa_model.specs.Steps.{answer}
use Rattle.drmaa_model.specs.Controlling.{is_controlled, controlled_row, control_step, is_done}
use Rattle.drmaa_model.specs.Courses.{begun, unstarted, exited, lost, signal_failed, failed, called, terminated, controlled, may_kill}
use Rattle.drmaa_model.specs.Effects.{gives, forget_home, is_forgotten, left_by}
use Rattle.drmaa_model.specs.FitLaws.{all-append}
use Rattle.drmaa_model.specs.Plan.{Plan}
use Rattle.drmaa_model.specs.Reporting.{is_idle, may_begin, may_exit, may_tell, start_row, unstart_row, end_row, lose_row, done_row, undone_row, report_of}
use Rattle.drmaa_model.specs.ReportLaws.{report-leads, may_begin-busy}
use Rattle.drmaa_model.specs.Requests.{without_reservation}
use Rattle.drmaa_model.specs.RowLaws.{all-filter, all-implied, all-map, row_of-all}
use Rattle.drmaa_model.specs.Rows.{is_of, row_of, with_course}
use Rattle.drmaa_model.specs.Submitting.{Member, members, new_row, new_rows}
use Rattle.drmaa_model.specs.Targets.{is_meant}
use Rattle.drmaa_model.specs.Time.{lapsed, called_in, expire, call_in, advance_plan, come_to, let_go, advance}
use Rattle.drmaa_model.specs.TimeLaws.{lapsed-cases, called-cases}
use Rattle.drmaa_model.specs.World.{World}

-- a course keeps the number of launches of another one, and wakes no job
pub record Follows (before after : Course) : Type 0 where
  pub attempt : after.attempt ≡ before.attempt
  pub idle : is_idle after.phase ≡ false → is_idle before.phase ≡ false

-- What is tracked of a job stays true where its course follows one of which it is true.
module _ (T : ℕ → Course → Type 0) (follow : (j : ℕ) (c d : Course) → Follows c d → T j c → T j d) where
  abbrev pub Tracked : List Row → Type 0
  Tracked rows = AllByRecursion (λ (r : Row). T r.job.0 r.course) rows

  -- it is true of the second plan's jobs, and the next number does not fall
  abbrev Keeps : Plan → Plan → Type 0
  Keeps p q = Tracked q.rows × (p.next_job ≤ q.next_job)

  all-mapped : (f : Row → Row) → ((r : Row) → T r.job.0 r.course → T (f r).job.0 (f r).course) → (rows : List Row) → Tracked rows → Tracked (map f rows)
  all-mapped f each rows all = all-map (λ (r : Row). T r.job.0 r.course) f rows (all-implied (λ (r : Row). T r.job.0 r.course) (λ (r : Row). T (f r).job.0 (f r).course) each rows all)

  -- ---- time

  expire-tracked : (entry : ℕ) (p : Plan) → Tracked p.rows → Tracked (expire entry p).rows
  expire-tracked entry p all = all-mapped (lapsed p.moment p.reservations)
      (λ r. lapsed-cases (λ (a b : Row). T a.job.0 a.course → T b.job.0 b.course) p.moment p.reservations r (λ h t. t)
      (λ h waits n t. follow r.job.0 r.course (failed p.moment n r.course) (record { attempt = refl; idle = λ e. absurd (cc) }) t)) p.rows all

  call_in-tracked : (p : Plan) → Tracked p.rows → Tracked (call_in p).rows
  call_in-tracked p all = all-mapped (called_in p.moment p.reservations)
      (λ r. called-cases (λ (a b : Row). T a.job.0 a.course → T b.job.0 b.course) p.moment p.reservations r (λ h t. t)
      (λ h starts n t. follow r.job.0 r.course (called n r.course) (record { attempt = refl; idle = λ e. e }) t)) p.rows all

  pub advance-tracked : (entry at : ℕ) (p : Plan) → Tracked p.rows → Tracked (advance_plan entry at p).rows
  advance-tracked entry at p all = call_in-tracked (expire entry (let_go (come_to at p))) (expire-tracked entry (let_go (come_to at p)) all)

  -- ---- control

  terminate-follows : (moment : ℕ) (c : Course) → Follows c (terminated moment c)
  terminate-follows moment c =
      elim (is_started c.state) as (λ b. Follows c (cond b (cond (may_kill c.kill) (called note.Terminated c) c) (failed moment note.Terminated c))) [
        | true ↦ elim (may_kill c.kill) as (λ b. Follows c (cond b (called note.Terminated c) c)) [
          | true ↦ record { attempt = refl; idle = λ e. e }
          | false ↦ record { attempt = refl; idle = λ e. e }
        ]
        | false ↦ record { attempt = refl; idle = λ e. absurd (cc) }
      ]

  control-follows : (moment : ℕ) (what : Control) (state : JobState) (c : Course) → Follows c (controlled moment what state c)
  control-follows moment control.Terminate state c = terminate-follows moment c
  control-follows moment _ state c = record { attempt = refl; idle = λ e. e }

  control-row : (moment : ℕ) (what : Control) (r : Row) → T r.job.0 r.course → T (controlled_row moment what r).job.0 (controlled_row moment what r).course
  control-row moment what r t =
      let after : Option JobState → Row = λ o. option_map_or (λ (state : JobState). record r { course = controlled moment what state r.course }) o r in
      elim (after_control r.course.state what) as (λ o. T (after o).job.0 (after o).course) [
        | None ↦ t
        | Some state ↦ follow r.job.0 r.course (controlled moment what state r.course) (control-follows moment what state r.course) t
      ]

  control-step : (moment : ℕ) (meant : Target) (what : Control) (r : Row) → T r.job.0 r.course → T (control_step moment meant what r).job.0 (control_step moment meant what r).course
  control-step moment meant what r t =
      elim (is_controlled meant what r) as (λ b. T (cond b (controlled_row moment what r) r).job.0 (cond b (controlled_row moment what r) r).course) [
        | true ↦ control-row moment what r t
        | false ↦ t
      ]

  -- ---- submission, sessions, signals and waits

  rows-tracked : (home : ℕ) (p : Plan) → ((n : ℕ) (c : Course) → p.next_job ≤ n → c.attempt ≡ 0 → is_idle c.phase ≡ true → T n c)
      → (number : ℕ) → p.next_job ≤ number → (ms : List Member) → Tracked (new_rows home p number ms)
  rows-tracked home p fresh number above [] = tt
  rows-tracked home p fresh number above (m ∷ ms) =
      (fresh number (new_row home p number m).course above refl refl, rows-tracked home p fresh (number + 1) (omega arith) ms)

  forget-tracked : (home : ℕ) (p : Plan) → Tracked p.rows → Tracked (forget_home home p).rows
  forget-tracked home p all =
      all-mapped (λ (row : Row). record row { home = left_by home row.home }) (λ r t. t) (filter (λ (row : Row). not (is_forgotten home row)) p.rows)
      (all-filter (λ (r : Row). T r.job.0 r.course) (λ (row : Row). not (is_forgotten home row)) p.rows all)

  -- ---- reports

  go_on-tracked : (job : JobId) (course : Course) → T job.0 course → (rows : List Row) → Tracked rows → Tracked (map (with_course job course) rows)
  go_on-tracked job course here rows all = all-mapped (with_course job course)
      (λ r t. (elim (is_of job r) as (λ b. is_of job r ≡ b → T (cond b (record r { course = course }) r).job.0 (cond b (record r { course = course }) r).course) [
        | true ↦ λ e. subst (λ n. T n course) (sym (eqb-true r.job.0 job.0 e)) here
        | false ↦ λ e. t
      ]) refl) rows all

  undone-follows : (kind : SignalKind) (c : Course) → Follows c (signal_failed kind c)
  undone-follows signal.Stop c = record { attempt = refl; idle = λ e. e }
  undone-follows _ c = record { attempt = refl; idle = λ e. e }

  -- a job that is found goes on
  moved : (job : JobId) (p : Plan) → Tracked p.rows → (row : Row) → row_of job p.rows ≡ Some row → (next : Course) → Follows row.course next
      → Tracked (map (with_course row.job next) p.rows) × (p.next_job ≤ p.next_job)
  moved job p all row found next follows =
      (go_on-tracked row.job next (follow row.job.0 row.course next follows (row_of-all (λ (r : Row). T r.job.0 r.course) job p.rows row all found)) p.rows all, omega arith)

  report-keeps : (r : Report) (entry : ℕ) (p : Plan) → Tracked p.rows → (report_of r).refusal p ≡ None → Keeps p ((report_of r).effect entry p)
  report-keeps (report.Started job attempt) entry p all = report-leads (Keeps p) (λ q. may_begin attempt) job start_row entry p
      (λ row found may. moved job p all row found (begun row.course) (record { attempt = refl; idle = λ e. may_begin-busy attempt row.course may }))
  report-keeps (report.StartFailed job attempt) entry p all = report-leads (Keeps p) (λ q. may_begin attempt) job unstart_row entry p
      (λ row found may. moved job p all row found (unstarted p.moment row.wants.rerunnable row.course) (record { attempt = refl; idle = λ e. absurd (cc) }))
  report-keeps (report.Exited job attempt exit) entry p all = report-leads (Keeps p) (λ q. may_exit attempt) job (end_row exit) entry p
      (λ row found may. moved job p all row found (exited p.moment exit row.wants.rerunnable row.course) (record { attempt = refl; idle = λ e. absurd (cc) }))
  report-keeps (report.ExitUnknown job attempt) entry p all = report-leads (Keeps p) (λ q. may_exit attempt) job lose_row entry p
      (λ row found may. moved job p all row found (lost p.moment row.wants.rerunnable row.course) (record { attempt = refl; idle = λ e. absurd (cc) }))
  report-keeps (report.SignalDone job attempt kind) entry p all = report-leads (Keeps p) (may_tell attempt job kind) job (done_row kind) entry p (λ row found may. (all, omega arith))
  report-keeps (report.SignalFailed job attempt kind) entry p all = report-leads (Keeps p) (may_tell attempt job kind) job (undone_row kind) entry p
      (λ row found may. moved job p all row found (signal_failed kind row.course) (undone-follows kind row.course))

  -- ---- all calls but a launch

  after-keeps : (v : World) (c : Call) → ((n : ℕ) (d : Course) → v.plan.next_job ≤ n → d.attempt ≡ 0 → is_idle d.phase ≡ true → T n d) → (c ≡ call.TakeLaunch → ⊥)
      → Tracked v.plan.rows → HoldsAfter v c (Keeps v.plan)
  after-keeps v c fresh other all = record {
    same = (all, omega arith);
    forgets = λ home. (forget-tracked home v.plan all, omega arith);
    submits = λ home t indices free. (
      all-append (λ (r : Row). T r.job.0 r.course) v.plan.rows (new_rows home v.plan v.plan.next_job (members t indices v.plan)) all
          (rows-tracked home v.plan fresh v.plan.next_job (omega arith) (members t indices v.plan)),
      omega arith,
    );
    controls = λ meant what. (all-mapped (control_step v.plan.moment meant what) (control-step v.plan.moment meant what) v.plan.rows all, omega arith);
    reaps = λ meant. (all-filter (λ (r : Row). T r.job.0 r.course) (λ (row : Row). not (is_meant meant row && is_done row)) v.plan.rows all, omega arith);
    requests = λ home t free. (all, omega arith);
    ends = λ number. (
      call_in-tracked (expire (v.entries + 1) (without_reservation number v.plan)) (expire-tracked (v.entries + 1) (without_reservation number v.plan) all),
      omega arith,
    );
    launches = λ asked. absurd (other asked);
    signals = (all, omega arith);
    reports = λ r free. report-keeps r (v.entries + 1) v.plan all free;
  }

  pub answer-keeps : (w : World) (at : ℕ) → ((n : ℕ) (c : Course) → w.plan.next_job ≤ n → c.attempt ≡ 0 → is_idle c.phase ≡ true → T n c)
      → (c : Call) → (c ≡ call.TakeLaunch → ⊥) → Tracked w.plan.rows → (r : Reply) (next : World) → answer w at c ≡ gives r next
      → Tracked next.plan.rows × (w.plan.next_job ≤ next.plan.next_job)
  answer-keeps w at fresh c other all r next is =
      let v = advance w at in
      answer-leads at v c (Keeps v.plan) (after-keeps v c fresh other (advance-tracked (w.entries + 1) at w.plan all)) r next is
