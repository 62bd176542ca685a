use Rattle.std.proofs.Common.{inl, sym, ap, arith}
use Rattle.drmaa_model.specs.declared.calls.Call.TheVariants as call
use Rattle.machine_readings.specs.Stores.{world_at, world_of}
use Rattle.machine_calls.proofs.Firsts.{reap-first, reap-through}
use Rattle.drmaa_model.specs.Controlling.{reap}
use Rattle.drmaa_model.specs.Effects.{unit}
use Rattle.scheduler_core.specs.View.{View}
use Rattle.machine_calls.proofs.Outcomes.{reap-outcome}
use Rattle.machine_calls.proofs.Placed.{comes-after, due-after, place-after}
use Rattle.machine_calls.proofs.Spares.{operation-spare}
use Rattle.machine_calls.proofs.operations.reap.Goals as goal

pub returns-in-Some-clause-comes : goal.returns-in-Some-clause-comes
returns-in-Some-clause-comes c = c.refuse.ensures.comes (call.Reap c.args.session c.args.target) (reap-first c.args.session c.args.target (world_at c.args.at c.args.store.now) c.in-Some.why (sym (c.in-Some.ensures {u = tt})))

pub returns-in-None-clause-comes : goal.returns-in-None-clause-comes
returns-in-None-clause-comes c =
    comes-after unit (reap c.args.target) c.args.store.now c.occasion_for-occasion.new.store c.args.at (call.Reap c.args.session c.args.target) (reap-through c.args.session c.args.target c.args.at (world_at c.args.at c.args.store.now) (sym (c.in-None.ensures {u = tt})))
    c.occasion_for-occasion.result c.occasion_for-occasion.ensures.next c.reap-done.new.self.plan c.reap-done.result c.conclude.result (world_of c.conclude.new.store)
    c.occasion_for-occasion.ensures.world (inl c.reap-done.ensures.meets) c.conclude.ensures.concludes c.reap-done.ensures.meets

pub returns-in-None-clause-place : goal.returns-in-None-clause-place
returns-in-None-clause-place c =
    place-after unit (reap c.args.target) c.args.store.now c.occasion_for-occasion.new.store c.args.at (call.Reap c.args.session c.args.target) (reap-through c.args.session c.args.target c.args.at (world_at c.args.at c.args.store.now) (sym (c.in-None.ensures {u = tt})))
    c.occasion_for-occasion.result c.occasion_for-occasion.ensures.next c.reap-done.new.self.plan c.reap-done.result c.conclude.result (world_of c.conclude.new.store)
    c.occasion_for-occasion.ensures.world (inl c.reap-done.ensures.meets) c.conclude.ensures.concludes c.conclude.new.store c.occasion_for-occasion.ensures.place (reap-outcome c.args.target c.occasion_for-occasion.result.entry)
    c.requires.store.consistent.fit c.conclude.ensures.keeps.len c.conclude.ensures.keeps.more (ap (λ (v : View). v.plan) c.conclude.ensures.core)

pub returns-in-None-clause-spare : goal.returns-in-None-clause-spare
returns-in-None-clause-spare c =
    (let due = due-after unit (reap c.args.target) c.args.store.now c.occasion_for-occasion.new.store c.args.at (call.Reap c.args.session c.args.target) (reap-through c.args.session c.args.target c.args.at (world_at c.args.at c.args.store.now) (sym (c.in-None.ensures {u = tt})))
    c.occasion_for-occasion.result c.occasion_for-occasion.ensures.next c.reap-done.new.self.plan c.reap-done.result c.conclude.result (world_of c.conclude.new.store)
    c.occasion_for-occasion.ensures.world (inl c.reap-done.ensures.meets) c.conclude.ensures.concludes (reap-outcome c.args.target c.occasion_for-occasion.result.entry) c.requires.store.consistent.fit in
    let same = c.reap-done.ensures.spare in
    operation-spare c.args.store.now c.occasion_for-occasion.new.store c.conclude.new.store c.reap-done.new.self c.occasion_for-occasion.ensures.keeps c.occasion_for-occasion.ensures.core
    c.conclude.ensures.core c.conclude.ensures.keeps.len c.conclude.ensures.keeps.more due (omega (arith, same)))
