-- A report whose entry was promised: it is not refused, fewer reports are to come after it, and the journal has room for it.
use Rattle.std.proofs.Common.{◌≡◌, ◌≢◌, ℕ, ◌+◌, ◌≤◌, Bool, true, false, eqb, List, map, Option, Some, None, refl, sym, ◌∙◌, ap, subst, arith}
use Rattle.std.specs.Option.{option_map_or}
use Rattle.std.specs.Prelude.{Result, Ok, Err}
use Rattle.std.proofs.lemmas.Bool.{and_parts}
use Rattle.drmaa_types.specs.declared.identifiers.JobId.{JobId}
use Rattle.drmaa_types.specs.declared.refusals.Refusal.{Refusal}
use Rattle.drmaa_model.specs.declared.calls.Report.{Report}
use Rattle.drmaa_model.specs.declared.calls.Report.TheVariants as report
use Rattle.drmaa_model.specs.declared.courses.Course.{Course}
use Rattle.drmaa_model.specs.declared.courses.Phase.{Phase}
use Rattle.drmaa_model.specs.declared.courses.Phase.TheVariants.{Idle, Launching, Alive}
use Rattle.drmaa_model.specs.declared.faults.NoEntry.{NoEntry}
use Rattle.drmaa_model.specs.declared.faults.NoEntry.TheVariants.{OutOfMemory}
use Rattle.drmaa_model.specs.declared.rows.Row.{Row}
use Rattle.drmaa_model.specs.Courses.{begun, unstarted, exited, lost}
use Rattle.drmaa_model.specs.Fit.{IsFit}
use Rattle.drmaa_model.specs.FitLaws.{advance-fit}
use Rattle.drmaa_model.specs.Growth.{is_of_run}
use Rattle.drmaa_model.specs.Operation.{Outcome, outcome, size_at}
use Rattle.drmaa_model.specs.OperationLaws.{outcome-served}
use Rattle.drmaa_model.specs.Plan.{Plan}
use Rattle.drmaa_model.specs.Reporting.{report_of, may_begin, may_exit, is_idle, is_launching, start_row, unstart_row, end_row, lose_row}
use Rattle.drmaa_model.specs.ReportLaws.{report-free, report-finds, may_exit-busy}
use Rattle.drmaa_model.specs.RowLaws.{row_of-is}
use Rattle.drmaa_model.specs.Rows.{row_of, with_course}
use Rattle.drmaa_model.specs.Size.{weight}
use Rattle.drmaa_model.specs.Time.{rows_at}
use Rattle.drmaa_model.specs.TimeLaws.{weight-advance}
use Rattle.drmaa_model.specs.WeightLaws.{run-weight}
use Rattle.plan_book.specs.declared.occasions.Occasion.{Occasion}
use Rattle.plan_book.specs.Occasions.{MeetsAt, plan_at}
use Rattle.plan_book.specs.Occasions.Meets.{served, full, short}
use Rattle.scheduler_core.specs.Facts.{reports_due, reports_to_come}
use Rattle.machine_readings.specs.declared.store.Store.{Store}
use Rattle.machine_readings.specs.Stores.{world_of, IsStore}
use Rattle.machine_calls.specs.Reports.{has_course, is_promised}
use Rattle.machine_calls.specs.Serving.{IsNextOccasion}
use Rattle.machine_calls.proofs.Dues.{due, go-due, advance-due}
use Rattle.machine_calls.proofs.Outcomes.{launching-due}

-- ---- it is exactly what is not refused

found-course : (test : Course → Bool) (job : JobId) (rows : List Row) → has_course test job rows ≡ true → (row : Row) × (row_of job rows ≡ Some row) × (test row.course ≡ true)
found-course test job rows is =
    (elim (row_of job rows) as (λ o. row_of job rows ≡ o → option_map_or (λ (row : Row). test row.course) o false ≡ true → (row : Row) × (row_of job rows ≡ Some row) × (test row.course ≡ true)) [
      | None ↦ λ found h. absurd (cc)
      | Some row ↦ λ found h. (row, found, h)
    ]) refl is

course-found : (test : Course → Bool) (job : JobId) (rows : List Row) (row : Row) → row_of job rows ≡ Some row → test row.course ≡ true → has_course test job rows ≡ true
course-found test job rows row found meets = ap (λ (o : Option Row). option_map_or (λ (r : Row). test r.course) o false) found ∙ meets

pub promised-run : (r : Report) (rows : List Row) → is_promised r rows ≡ true → is_of_run r ≡ true
promised-run (report.Started job attempt) rows is = refl
promised-run (report.StartFailed job attempt) rows is = refl
promised-run (report.Exited job attempt exit) rows is = refl
promised-run (report.ExitUnknown job attempt) rows is = refl
promised-run (report.SignalDone job attempt kind) rows is = absurd (cc)
promised-run (report.SignalFailed job attempt kind) rows is = absurd (cc)

pub promised-free : (r : Report) (p : Plan) → is_promised r p.rows ≡ true → (report_of r).refusal p ≡ None
promised-free (report.Started job attempt) p is = (let f = found-course (may_begin attempt) job p.rows is in report-free (λ p. may_begin attempt) job start_row p f.0 f.1 f.2)
promised-free (report.StartFailed job attempt) p is = (let f = found-course (may_begin attempt) job p.rows is in report-free (λ p. may_begin attempt) job unstart_row p f.0 f.1 f.2)
promised-free (report.Exited job attempt exit) p is = (let f = found-course (may_exit attempt) job p.rows is in report-free (λ p. may_exit attempt) job (end_row exit) p f.0 f.1 f.2)
promised-free (report.ExitUnknown job attempt) p is = (let f = found-course (may_exit attempt) job p.rows is in report-free (λ p. may_exit attempt) job lose_row p f.0 f.1 f.2)
promised-free (report.SignalDone job attempt kind) p is = absurd (cc)
promised-free (report.SignalFailed job attempt kind) p is = absurd (cc)

pub free-promised : (r : Report) (p : Plan) → is_of_run r ≡ true → (report_of r).refusal p ≡ None → is_promised r p.rows ≡ true
free-promised (report.Started job attempt) p run free = (let f = report-finds (λ p. may_begin attempt) job start_row p free in course-found (may_begin attempt) job p.rows f.0 f.1 f.2)
free-promised (report.StartFailed job attempt) p run free = (let f = report-finds (λ p. may_begin attempt) job unstart_row p free in course-found (may_begin attempt) job p.rows f.0 f.1 f.2)
free-promised (report.Exited job attempt exit) p run free = (let f = report-finds (λ p. may_exit attempt) job (end_row exit) p free in course-found (may_exit attempt) job p.rows f.0 f.1 f.2)
free-promised (report.ExitUnknown job attempt) p run free = (let f = report-finds (λ p. may_exit attempt) job lose_row p free in course-found (may_exit attempt) job p.rows f.0 f.1 f.2)
free-promised (report.SignalDone job attempt kind) p run free = absurd (cc)
free-promised (report.SignalFailed job attempt kind) p run free = absurd (cc)

-- ---- fewer reports are to come

busy-due : (p : Phase) → is_idle p ≡ false → 1 ≤ reports_due p
busy-due Idle is = absurd (cc)
busy-due Launching is = omega arith
busy-due Alive is = omega arith

-- the effect of a report on the row that is found, after which its process brings fewer
falls : (q : Plan) (job : JobId) (effect : Row → Plan) (row : Row) (course : Course) → IsFit q → row_of job q.rows ≡ Some row → (effect row).rows ≡ map (with_course row.job course) q.rows
    → reports_due course.phase + 1 ≤ due row → reports_to_come (option_map_or effect (row_of job q.rows) q).rows + 1 ≤ reports_to_come q.rows
falls q job effect row course fit found does less =
    let own : row_of row.job q.rows ≡ Some row = ap (λ n. row_of (record { 0 = n }) q.rows) (row_of-is job q.rows row found) ∙ found in
    let goes = go-due q row course fit.jobs.rising own in
    let same : (option_map_or effect (row_of job q.rows) q).rows ≡ map (with_course row.job course) q.rows = ap (λ (o : Option Row). (option_map_or effect o q).rows) found ∙ does in
    let count = ap reports_to_come same in
    omega (arith, goes, less, count)

pub promised-due : (r : Report) (entry : ℕ) (q : Plan) → IsFit q → is_promised r q.rows ≡ true → reports_to_come ((report_of r).effect entry q).rows + 1 ≤ reports_to_come q.rows
promised-due (report.Started job attempt) entry q fit is =
    let f = found-course (may_begin attempt) job q.rows is in
    let row = f.0 in
    let launching = launching-due row.course.phase (and_parts (is_launching row.course.phase) (eqb row.course.attempt attempt) f.2).0 in
    falls q job (start_row entry q) row (begun row.course) fit f.1 refl (omega (arith, launching))
promised-due (report.StartFailed job attempt) entry q fit is =
    let f = found-course (may_begin attempt) job q.rows is in
    let row = f.0 in
    let launching = launching-due row.course.phase (and_parts (is_launching row.course.phase) (eqb row.course.attempt attempt) f.2).0 in
    falls q job (unstart_row entry q) row (unstarted q.moment row.wants.rerunnable row.course) fit f.1 refl (omega (arith, launching))
promised-due (report.Exited job attempt exit) entry q fit is =
    let f = found-course (may_exit attempt) job q.rows is in
    let row = f.0 in
    let busy = busy-due row.course.phase (may_exit-busy attempt row.course f.2) in
    falls q job (end_row exit entry q) row (exited q.moment exit row.wants.rerunnable row.course) fit f.1 refl (omega (arith, busy))
promised-due (report.ExitUnknown job attempt) entry q fit is =
    let f = found-course (may_exit attempt) job q.rows is in
    let row = f.0 in
    let busy = busy-due row.course.phase (may_exit-busy attempt row.course f.2) in
    falls q job (lose_row entry q) row (lost q.moment row.wants.rerunnable row.course) fit f.1 refl (omega (arith, busy))
promised-due (report.SignalDone job attempt kind) entry q fit is = absurd (cc)
promised-due (report.SignalFailed job attempt kind) entry q fit is = absurd (cc)

-- ---- it is taken

pub record IsTaken (s : Store) (done : Result (Result (Unit {0}) Refusal) NoEntry) (new : Plan) : Type 0 where
  pub ok : done ≡ Ok (Ok tt)
  pub fewer : reports_to_come new.rows + 1 ≤ reports_to_come s.core.plan.rows

pub promised-taken : (s : Store) (at : ℕ) (o : Occasion) (r : Report) (done : Result (Result (Unit {0}) Refusal) NoEntry) (new : Plan) → IsStore s → IsNextOccasion o (world_of s) at
    → is_promised r (rows_at at s.core.plan) ≡ true → done ≢ Err OutOfMemory → MeetsAt o (report_of r) s.core.plan done new → IsTaken s done new
promised-taken s at o r done new kept on is sure met =
    let q = plan_at o s.core.plan in
    let here : is_promised r q.rows ≡ true = subst (λ (m : ℕ). is_promised r (rows_at m s.core.plan) ≡ true) (sym on.at_is) is in
    let fit : IsFit q = advance-fit o.entry o.at s.core.plan kept.consistent.fit in
    let free : (report_of r).refusal q ≡ None = promised-free r q here in
    let does = outcome-served (report_of r) o.entry q free in
    let lighter : weight ((report_of r).effect o.entry q) + 1 ≤ weight q = run-weight r o.entry q (promised-run r q.rows here) fit free in
    let weighs : weight q ≡ weight s.core.plan = weight-advance o.entry o.at s.core.plan in
    let within = kept.within in
    let entry : o.entry ≡ s.entries + 1 = on.entry_is in
    let limit : o.limit ≡ s.config.journal = on.limit_is in
    let after : weight (outcome (report_of r) o.entry q).plan ≡ weight ((report_of r).effect o.entry q) = ap (λ (x : Outcome (Unit {0})). weight x.plan) does in
    let fits : size_at o.entry (outcome (report_of r) o.entry q).plan ≤ o.limit = omega (arith, lighter, weighs, within, after, entry, limit) in
    let less = promised-due r o.entry q fit here in
    let earlier = advance-due o.entry o.at s.core.plan in
    elim met [
      | served x ↦
          (let rows = ap (λ (p : Plan). reports_to_come p.rows) x.plan in
          let same = ap (λ (y : Outcome (Unit {0})). reports_to_come y.plan.rows) does in
          record {
            ok = x.answered ∙ ap (λ (y : Outcome (Unit {0})). let d : Result (Result (Unit {0}) Refusal) NoEntry = Ok y.answer in d) does;
            fewer = omega (arith, rows, same, less, earlier);
          })
      | full x ↦ (let above = x.above in absurd (omega (arith, above, fits)))
      | short x ↦ absurd (sure x.answered)
    ]
