use Rattle.std.proofs.Common.{inl, refl, sym, ap, subst, arith}
use Rattle.std.specs.Prelude.{Result, Ok, Err, OnOk, IsOk}
use Rattle.drmaa_types.specs.declared.refusals.Refusal.{Refusal}
use Rattle.drmaa_model.specs.declared.faults.NoEntry.{NoEntry}
use Rattle.drmaa_model.specs.Effects.{unit}
use Rattle.drmaa_model.specs.Reporting.{report_of}
use Rattle.scheduler_core.specs.Facts.{reports_to_come}
use Rattle.scheduler_core.specs.View.{View}
use Rattle.machine_readings.specs.Stores.{world_of, world_at}
use Rattle.machine_calls.specs.declared.replies.Replies.{Replies}
use Rattle.machine_calls.specs.Reports.{call_of}
use Rattle.machine_calls.specs.Serving.{Concludes, HasPlace}
use Rattle.machine_calls.proofs.Firsts.{report-through}
use Rattle.machine_calls.proofs.Placed.{comes-after}
use Rattle.machine_calls.proofs.Promised.{promised-taken}
use Rattle.machine_calls.proofs.Spares.{uses-none}
use Rattle.machine_calls.proofs.reports.take_promised.Goals as goal

pub returns-clause-comes : goal.returns-clause-comes
returns-clause-comes c =
    comes-after unit (report_of c.args.report) c.args.store.now c.args.store.now c.args.at (call_of c.args.report) (report-through c.args.report c.args.at (world_at c.args.at c.args.store.now))
    c.next_occasion-occasion.result c.next_occasion-occasion.ensures.next c.report-done.new.self.plan c.report-done.result c.conclude.result (world_of c.conclude.new.store)
    refl (inl c.report-done.ensures.meets) c.conclude.ensures.concludes c.report-done.ensures.meets

pub returns-clause-place : goal.returns-clause-place
returns-clause-place c =
    (let taken = promised-taken c.args.store.now c.args.at c.next_occasion-occasion.result c.args.report c.report-done.result c.report-done.new.self.plan c.requires.store c.next_occasion-occasion.ensures.next c.requires.promised
    (c.report-done.ensures.memory c.next_occasion-occasion.ensures.memory) c.report-done.ensures.meets in
    let room = c.requires.store.room in
    let fewer = taken.fewer in
    let rows = ap (λ (v : View). reports_to_come v.plan.rows) c.conclude.ensures.core in
    let len = c.conclude.ensures.keeps.len in
    let more = c.conclude.ensures.keeps.more in
    let there : HasPlace 1 c.conclude.new.store = omega (arith, room, fewer, rows, len, more) in
    elim c.conclude.result as (λ (r : Result Replies NoEntry). OnOk r (HasPlace 1 c.conclude.new.store)) [ Ok x ↦ there | Err e ↦ tt ])

pub returns-clause-taken : goal.returns-clause-taken
returns-clause-taken c =
    (let taken = promised-taken c.args.store.now c.args.at c.next_occasion-occasion.result c.args.report c.report-done.result c.report-done.new.self.plan c.requires.store c.next_occasion-occasion.ensures.next c.requires.promised
    (c.report-done.ensures.memory c.next_occasion-occasion.ensures.memory) c.report-done.ensures.meets in
    let ends = subst (λ (d : Result (Result (Unit {0}) Refusal) NoEntry). Concludes unit d (record (world_of c.args.store.now) { plan = c.report-done.new.self.plan }) c.conclude.result (world_of c.conclude.new.store)) taken.ok c.conclude.ensures.concludes in
    subst (λ (r : Result Replies NoEntry). IsOk r) (sym ends.1) refl)

pub returns-clause-spare : goal.returns-clause-spare
returns-clause-spare c =
    (let taken = promised-taken c.args.store.now c.args.at c.next_occasion-occasion.result c.args.report c.report-done.result c.report-done.new.self.plan c.requires.store c.next_occasion-occasion.ensures.next c.requires.promised
    (c.report-done.ensures.memory c.next_occasion-occasion.ensures.memory) c.report-done.ensures.meets in
    let fewer = taken.fewer in
    let rows = ap (λ (v : View). reports_to_come v.plan.rows) c.conclude.ensures.core in
    let left = ap (λ (v : View). v.spare) c.conclude.ensures.core in
    let kept = c.report-done.ensures.spare in
    uses-none c.args.store.now c.conclude.new.store c.conclude.ensures.keeps.len c.conclude.ensures.keeps.more c.requires.store (omega (arith, fewer, rows)) (omega (arith, left, kept)))
