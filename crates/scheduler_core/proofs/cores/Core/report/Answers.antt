use Rattle.std.proofs.Common.{◌≡◌, Some, None, sym, ◌∙◌, ap, subst, arith}
use Rattle.std.specs.Prelude.{Result}
use Rattle.std.proofs.lemmas.Result.{err_from_is_err_and}
use Rattle.std.specs.Option.{option_map}
use Rattle.drmaa_types.specs.declared.identifiers.JobId.{JobId}
use Rattle.drmaa_types.specs.declared.refusals.Refusal.TheVariants.{InvalidArgument, InvalidState}
use Rattle.drmaa_types.specs.declared.refusals.Which.TheVariants as which
use Rattle.drmaa_model.specs.declared.faults.NoEntry.{NoEntry}
use Rattle.drmaa_model.specs.FitLaws.{advance-fit}
use Rattle.drmaa_model.specs.Plan.{Plan}
use Rattle.drmaa_model.specs.Reporting.{report_of}
use Rattle.drmaa_model.specs.Rows.{row_of}
use Rattle.drmaa_model.specs.Time.{rows_at}
use Rattle.plan_book.specs.Book.{plan_of, moved}
use Rattle.plan_book.specs.Facts.{facts_of}
use Rattle.plan_book.specs.declared.moves.Move.{Move}
use Rattle.plan_book.specs.Ties.{MayMake, IsBeside}
use Rattle.scheduler_core.specs.View.{View}
use Rattle.scheduler_core.specs.Reports.{job_of, may_report, report_move}
use Rattle.scheduler_core.proofs.ReportSteps.{may-report-then, report-makes, report-frees, report-unkept, report-barred, report-may, report-beside}
use Rattle.plan_book.specs.FactLaws.{read-none}
use Rattle.plan_book.specs.Occasions.{StepsAt, plan_at}
use Rattle.scheduler_core.proofs.Steps.{Makes, IsFree, err-lacks, move-steps, unit-missed, unit-served}
use Rattle.scheduler_core.proofs.ViewSteps.{seen-meets, seen-refused}
use Rattle.scheduler_core.proofs.cores.Core.report.Goals as goal
use Rattle.scheduler_core.proofs.cores.Core.report.Goals.{After-may_report, After-report_move-m}

-- what is known of the job
said : (c : After-may_report) → Some c.in-Some.facts ≡ option_map facts_of (row_of (job_of c.args.report) (rows_at c.args.occasion.at (plan_of c.self.inside.book)))
said c = c.in-Some.ensures {u = tt} ∙ ap (λ (j : JobId). option_map facts_of (row_of j (rows_at c.args.occasion.at (plan_of c.self.inside.book)))) c.job_of.ensures

-- whether the report may come, in the plan that has come to its moment
may : (c : After-may_report) → may_report c.args.report (plan_at c.args.occasion (plan_of c.self.inside.book)).orders c.in-Some.facts.course ≡ c.may_report.result
may c =
    sym (may-report-then c.args.report c.args.occasion.entry c.args.occasion.at (plan_of c.self.inside.book) c.in-Some.facts.course)
    ∙ sym (ap (λ os. may_report c.args.report os c.in-Some.facts.course) c.orders.ensures) ∙ sym c.may_report.ensures

-- the move
makes : (c : After-report_move-m) → Makes (report_of c.args.report) c.args.occasion.entry (plan_at c.args.occasion (plan_of c.self.inside.book)) c.report_move-m.result
makes c =
    let p = plan_of c.self.inside.book in
    let q = plan_at c.args.occasion p in
    report-makes c.args.report c.args.occasion.entry q c.in-Some.facts c.report_move-m.result (advance-fit c.args.occasion.entry c.args.occasion.at p c.self.invariant.fit) (said c.before.before.before)
    (may c.before.before.before ∙ c.if-not-may_report.false)
    (c.report_move-m.ensures ∙ ap (λ moment. report_move c.args.report moment c.in-Some.facts) c.moment_at-moment.ensures)

frees : (c : After-report_move-m) → IsFree c.report_move-m.result
frees c =
    let p = plan_of c.self.inside.book in
    let q = plan_at c.args.occasion p in
    report-frees c.args.report c.args.occasion.entry q c.in-Some.facts c.report_move-m.result (advance-fit c.args.occasion.entry c.args.occasion.at p c.self.invariant.fit) (said c.before.before.before)
    (may c.before.before.before ∙ c.if-not-may_report.false)
    (c.report_move-m.ensures ∙ ap (λ moment. report_move c.args.report moment c.in-Some.facts) c.moment_at-moment.ensures)

pub make-requires-clause-tie : goal.make-requires-clause-tie
make-requires-clause-tie c = (makes (goal.at.make-requires-clause-tie c).After-report_move-m).ties

pub make-requires-clause-may : goal.make-requires-clause-may
make-requires-clause-may c = subst (MayMake c.self.inside.book.calendar) (sym (ap (λ (m : Move). m.booked) c.report_move-m.ensures)) (report-may c.self.inside.book.calendar c.args.report)

pub make-requires-clause-beside : goal.make-requires-clause-beside
make-requires-clause-beside c =
    subst (IsBeside c.self.inside.book.reservations.items) (sym (ap (λ (m : Move). m.booked) c.report_move-m.ensures)) (report-beside c.self.inside.book.reservations.items c.args.report)

pub make-requires-clause-move_is : goal.make-requires-clause-move_is
make-requires-clause-move_is c = (makes (goal.at.make-requires-clause-move_is c).After-report_move-m).is

pub make-requires-clause-fit : goal.make-requires-clause-fit
make-requires-clause-fit c = (makes (goal.at.make-requires-clause-fit c).After-report_move-m).fits

-- what the book has made of it
met : (c : After-report_move-m) (made : Result (Unit {0}) NoEntry) (new : Plan) → StepsAt c.args.occasion (moved c.args.occasion.entry c.report_move-m.result) (plan_of c.self.inside.book) made new
    → StepsAt c.args.occasion ((report_of c.args.report).effect c.args.occasion.entry) (plan_of c.self.inside.book) made new
met c made new is = move-steps (report_of c.args.report) c.args.occasion (plan_of c.self.inside.book) new c.report_move-m.result made (makes c) is

pub returns-clause-meets : goal.returns-clause-meets
returns-clause-meets c =
    let op = report_of c.args.report in
    let p = plan_of c.self.inside.book in
    let new = plan_of c.make.new.self in
    let free : op.refusal (plan_at c.args.occasion p) ≡ None = (makes (goal.at.returns-clause-meets c).After-report_move-m).free in
    seen-meets op c.args.occasion c.self.inside.book c.self.view_is _ new (unit-served op c.args.occasion p new c.make.result free (met (goal.at.returns-clause-meets c).After-report_move-m c.make.result new c.make.ensures.meets) c.in_ok-make.field-0 (c.in_ok-make.was {u = tt}))

pub returns-in_err-make-clause-meets : goal.returns-in_err-make-clause-meets
returns-in_err-make-clause-meets c =
    let op = report_of c.args.report in
    let p = plan_of c.self.inside.book in
    let new = plan_of c.make.new.self in
    let free : op.refusal (plan_at c.args.occasion p) ≡ None = (makes (goal.at.returns-in_err-make-clause-meets c).After-report_move-m).free in
    let e = err_from_is_err_and c.from_residual.result c.from_residual.ensures.1 in
    rw (e.1, e.2) (seen-meets op c.args.occasion c.self.inside.book c.self.view_is _ new (unit-missed op c.args.occasion p new c.make.result free (met (goal.at.returns-in_err-make-clause-meets c).After-report_move-m c.make.result new c.make.ensures.meets) c.in_err-make.field-0.0 (c.in_err-make.was {u = tt})))

pub returns-clause-spare : goal.returns-clause-spare
returns-clause-spare c =
    let f = frees (goal.at.returns-clause-spare c).After-report_move-m in
    let s = c.make.ensures.spare in
    let seen = ap (λ (v : View). v.spare) c.self.view_is in
    omega (arith, f.changes, s, seen)

pub returns-in_err-make-clause-spare : goal.returns-in_err-make-clause-spare
returns-in_err-make-clause-spare c =
    let f = frees (goal.at.returns-in_err-make-clause-spare c).After-report_move-m in
    let s = c.make.ensures.spare in
    let seen = ap (λ (v : View). v.spare) c.self.view_is in
    omega (arith, f.changes, s, seen)

pub returns-in_err-make-clause-memory : goal.returns-in_err-make-clause-memory
returns-in_err-make-clause-memory c = λ has.
    (let f = frees (goal.at.returns-in_err-make-clause-memory c).After-report_move-m in
    let e = err_from_is_err_and c.from_residual.result c.from_residual.ensures.1 in
    err-lacks c.make.result c.in_err-make.field-0.0 c.from_residual.result e.0 (c.in_err-make.was {u = tt}) e.1 e.2 (c.make.ensures.memory has (omega (arith, f.changes)) f.orders f.books))

pub returns-in_default-clause-meets : goal.returns-in_default-clause-meets
returns-in_default-clause-meets c =
    let p = plan_of c.self.inside.book in
    let q = plan_at c.args.occasion p in
    seen-refused (report_of c.args.report) c.args.occasion c.self.inside.book c.self.view_is (InvalidArgument which.Job) c.refuse.result (plan_of c.refuse.new.self)
    (report-unkept c.args.report q (read-none (job_of c.args.report) q.rows (c.in_default.ensures {u = tt} ∙ ap (λ (j : JobId). option_map facts_of (row_of j (rows_at c.args.occasion.at p))) c.job_of.ensures)))
    c.refuse.ensures.meets

pub returns-then-not-may_report-clause-meets : goal.returns-then-not-may_report-clause-meets
returns-then-not-may_report-clause-meets c =
    let asked = (goal.at.returns-then-not-may_report-clause-meets c).After-may_report in
    let refused = c.refuse-then-not-may_report in
    seen-refused (report_of c.args.report) c.args.occasion c.self.inside.book c.self.view_is (InvalidState c.in-Some.facts.course.state) refused.result (plan_of refused.new.self)
    (report-barred c.args.report (plan_at c.args.occasion (plan_of c.self.inside.book)) c.in-Some.facts (said asked) (may asked ∙ c.if-not-may_report.true))
    refused.ensures.meets
