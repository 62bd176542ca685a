use Rattle.std.proofs.Common.{◌≤◌, inl, sym, ◌∙◌, ap, arith}
use Rattle.drmaa_model.specs.declared.calls.Call.TheVariants as call
use Rattle.machine_readings.specs.Stores.{world_at, world_of}
use Rattle.machine_calls.specs.Serving.{spare_of}
use Rattle.machine_calls.proofs.Firsts.{control-first, control-through}
use Rattle.machine_calls.proofs.Spares.{after-error, error-only, operation-spare, uses-one}
use Rattle.drmaa_model.specs.Controlling.{control}
use Rattle.drmaa_model.specs.Effects.{unit}
use Rattle.scheduler_core.specs.Facts.{reports_to_come}
use Rattle.scheduler_core.specs.View.{View}
use Rattle.machine_calls.proofs.Outcomes.{control-outcome}
use Rattle.machine_calls.proofs.Placed.{comes-after, due-after, place-after}
use Rattle.machine_calls.proofs.Through.{concluded-other}
use Rattle.machine_calls.proofs.operations.control.Goals as goal

pub returns-in-Some-clause-comes : goal.returns-in-Some-clause-comes
returns-in-Some-clause-comes c = c.refuse.ensures.comes (call.Control c.args.session c.args.target c.args.what) (control-first c.args.session c.args.target c.args.what (world_at c.args.at c.args.store.now) c.in-Some.why (sym (c.in-Some.ensures {u = tt})))

pub returns-in-Some-clause-unspent : goal.returns-in-Some-clause-unspent
returns-in-Some-clause-unspent c = after-error c.refuse.result (spare_of c.args.store.now ≤ spare_of c.refuse.new.store) c.refuse.ensures.spare

pub returns-in-None-clause-comes : goal.returns-in-None-clause-comes
returns-in-None-clause-comes c =
    comes-after unit (control c.args.target c.args.what) c.args.store.now c.occasion_for-occasion.new.store c.args.at (call.Control c.args.session c.args.target c.args.what) (control-through c.args.session c.args.target c.args.what c.args.at (world_at c.args.at c.args.store.now) (sym (c.in-None.ensures {u = tt})))
    c.occasion_for-occasion.result c.occasion_for-occasion.ensures.next c.control-done.new.self.plan c.control-done.result c.conclude.result (world_of c.conclude.new.store)
    c.occasion_for-occasion.ensures.world (inl c.control-done.ensures.meets) c.conclude.ensures.concludes c.control-done.ensures.meets

pub returns-in-None-clause-place : goal.returns-in-None-clause-place
returns-in-None-clause-place c =
    place-after unit (control c.args.target c.args.what) c.args.store.now c.occasion_for-occasion.new.store c.args.at (call.Control c.args.session c.args.target c.args.what) (control-through c.args.session c.args.target c.args.what c.args.at (world_at c.args.at c.args.store.now) (sym (c.in-None.ensures {u = tt})))
    c.occasion_for-occasion.result c.occasion_for-occasion.ensures.next c.control-done.new.self.plan c.control-done.result c.conclude.result (world_of c.conclude.new.store)
    c.occasion_for-occasion.ensures.world (inl c.control-done.ensures.meets) c.conclude.ensures.concludes c.conclude.new.store c.occasion_for-occasion.ensures.place (control-outcome c.args.target c.args.what c.occasion_for-occasion.result.entry)
    c.requires.store.consistent.fit c.conclude.ensures.keeps.len c.conclude.ensures.keeps.more (ap (λ (v : View). v.plan) c.conclude.ensures.core)

pub returns-in-None-clause-memory : goal.returns-in-None-clause-memory
returns-in-None-clause-memory c = λ quiet room.
    (let before = ap (λ (v : View). v.spare) c.occasion_for-occasion.ensures.core in
    concluded-other unit c.control-done.result (record (world_of c.occasion_for-occasion.new.store) { plan = c.control-done.new.self.plan }) c.conclude.result (world_of c.conclude.new.store) c.conclude.ensures.concludes
    (c.control-done.ensures.memory (c.occasion_for-occasion.ensures.succeeds (omega (arith, room))) quiet (omega (arith, room, before))))

pub returns-in-None-clause-spare : goal.returns-in-None-clause-spare
returns-in-None-clause-spare c = λ quiet.
    (let due = due-after unit (control c.args.target c.args.what) c.args.store.now c.occasion_for-occasion.new.store c.args.at (call.Control c.args.session c.args.target c.args.what) (control-through c.args.session c.args.target c.args.what c.args.at (world_at c.args.at c.args.store.now) (sym (c.in-None.ensures {u = tt})))
    c.occasion_for-occasion.result c.occasion_for-occasion.ensures.next c.control-done.new.self.plan c.control-done.result c.conclude.result (world_of c.conclude.new.store)
    c.occasion_for-occasion.ensures.world (inl c.control-done.ensures.meets) c.conclude.ensures.concludes (control-outcome c.args.target c.args.what c.occasion_for-occasion.result.entry) c.requires.store.consistent.fit in
    let rows = ap (λ (v : View). reports_to_come v.plan.rows) c.conclude.ensures.core in
    let left = ap (λ (v : View). v.spare) c.conclude.ensures.core in
    let before = ap (λ (v : View). v.spare) c.occasion_for-occasion.ensures.core in
    let one = c.control-done.ensures.one quiet in
    let first = c.occasion_for-occasion.ensures.keeps in
    let then = c.conclude.ensures.keeps in
    let more = first.more in
    let again = then.more in
    uses-one c.args.store.now c.conclude.new.store (then.len ∙ first.len) (omega (arith, more, again)) (omega (arith, due, rows)) (omega (arith, left, before, one)))

pub returns-in-None-clause-unspent : goal.returns-in-None-clause-unspent
returns-in-None-clause-unspent c =
    (let due = due-after unit (control c.args.target c.args.what) c.args.store.now c.occasion_for-occasion.new.store c.args.at (call.Control c.args.session c.args.target c.args.what) (control-through c.args.session c.args.target c.args.what c.args.at (world_at c.args.at c.args.store.now) (sym (c.in-None.ensures {u = tt})))
    c.occasion_for-occasion.result c.occasion_for-occasion.ensures.next c.control-done.new.self.plan c.control-done.result c.conclude.result (world_of c.conclude.new.store)
    c.occasion_for-occasion.ensures.world (inl c.control-done.ensures.meets) c.conclude.ensures.concludes (control-outcome c.args.target c.args.what c.occasion_for-occasion.result.entry) c.requires.store.consistent.fit in
    error-only unit c.control-done.result (record (world_of c.occasion_for-occasion.new.store) { plan = c.control-done.new.self.plan }) c.conclude.result (world_of c.conclude.new.store)
    (c.occasion_for-occasion.new.store.core.spare ≤ c.control-done.new.self.spare) (spare_of c.args.store.now ≤ spare_of c.conclude.new.store) c.conclude.ensures.concludes
    (λ kept. operation-spare c.args.store.now c.occasion_for-occasion.new.store c.conclude.new.store c.control-done.new.self c.occasion_for-occasion.ensures.keeps c.occasion_for-occasion.ensures.core
    c.conclude.ensures.core c.conclude.ensures.keeps.len c.conclude.ensures.keeps.more due kept)
    c.control-done.ensures.err)
