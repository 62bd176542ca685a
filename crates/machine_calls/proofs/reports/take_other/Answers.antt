use Rattle.std.proofs.Common.{inl, ap, arith}
use Rattle.drmaa_model.specs.Effects.{unit}
use Rattle.drmaa_model.specs.Reporting.{report_of}
use Rattle.machine_readings.specs.Stores.{world_of, world_at}
use Rattle.scheduler_core.specs.View.{View}
use Rattle.machine_calls.specs.Reports.{call_of}
use Rattle.machine_calls.proofs.Firsts.{report-through}
use Rattle.machine_calls.proofs.Outcomes.{report-outcome}
use Rattle.machine_calls.proofs.Placed.{comes-after, due-after, place-after}
use Rattle.machine_calls.proofs.Spares.{operation-spare}
use Rattle.machine_calls.proofs.reports.take_other.Goals as goal

pub returns-clause-comes : goal.returns-clause-comes
returns-clause-comes c =
    comes-after unit (report_of c.args.report) c.args.store.now c.occasion_for-occasion.new.store c.args.at (call_of c.args.report) (report-through c.args.report c.args.at (world_at c.args.at c.args.store.now))
    c.occasion_for-occasion.result c.occasion_for-occasion.ensures.next c.report-done.new.self.plan c.report-done.result c.conclude.result (world_of c.conclude.new.store)
    c.occasion_for-occasion.ensures.world (inl c.report-done.ensures.meets) c.conclude.ensures.concludes c.report-done.ensures.meets

pub returns-clause-place : goal.returns-clause-place
returns-clause-place c =
    place-after unit (report_of c.args.report) c.args.store.now c.occasion_for-occasion.new.store c.args.at (call_of c.args.report) (report-through c.args.report c.args.at (world_at c.args.at c.args.store.now))
    c.occasion_for-occasion.result c.occasion_for-occasion.ensures.next c.report-done.new.self.plan c.report-done.result c.conclude.result (world_of c.conclude.new.store)
    c.occasion_for-occasion.ensures.world (inl c.report-done.ensures.meets) c.conclude.ensures.concludes c.conclude.new.store c.occasion_for-occasion.ensures.place (report-outcome c.args.report c.occasion_for-occasion.result.entry)
    c.requires.store.consistent.fit c.conclude.ensures.keeps.len c.conclude.ensures.keeps.more (ap (λ (v : View). v.plan) c.conclude.ensures.core)

pub returns-clause-spare : goal.returns-clause-spare
returns-clause-spare c =
    (let due = due-after unit (report_of c.args.report) c.args.store.now c.occasion_for-occasion.new.store c.args.at (call_of c.args.report) (report-through c.args.report c.args.at (world_at c.args.at c.args.store.now))
    c.occasion_for-occasion.result c.occasion_for-occasion.ensures.next c.report-done.new.self.plan c.report-done.result c.conclude.result (world_of c.conclude.new.store)
    c.occasion_for-occasion.ensures.world (inl c.report-done.ensures.meets) c.conclude.ensures.concludes (report-outcome c.args.report c.occasion_for-occasion.result.entry) c.requires.store.consistent.fit in
    let same = c.report-done.ensures.spare in
    operation-spare c.args.store.now c.occasion_for-occasion.new.store c.conclude.new.store c.report-done.new.self c.occasion_for-occasion.ensures.keeps c.occasion_for-occasion.ensures.core
    c.conclude.ensures.core c.conclude.ensures.keeps.len c.conclude.ensures.keeps.more due (omega (arith, same)))
