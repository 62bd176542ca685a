use Rattle.std.proofs.Common.{inl, sym, ap, arith}
use Rattle.drmaa_model.specs.declared.calls.Call.TheVariants as call
use Rattle.machine_readings.specs.Stores.{world_at, world_of}
use Rattle.machine_calls.proofs.Firsts.{end-first, end-through}
use Rattle.drmaa_model.specs.Effects.{unit}
use Rattle.drmaa_model.specs.Requests.{end_reservation}
use Rattle.scheduler_core.specs.View.{View}
use Rattle.machine_calls.proofs.Outcomes.{end-outcome}
use Rattle.machine_calls.proofs.Placed.{comes-after, due-after, place-after}
use Rattle.machine_calls.proofs.Spares.{operation-spare}
use Rattle.machine_calls.proofs.operations.end_reservation.Goals as goal

pub returns-in-Some-clause-comes : goal.returns-in-Some-clause-comes
returns-in-Some-clause-comes c = c.refuse.ensures.comes (call.EndReservation c.args.session c.args.number) (end-first c.args.session c.args.number (world_at c.args.at c.args.store.now) c.in-Some.why (sym (c.in-Some.ensures {u = tt})))

pub returns-in-None-clause-comes : goal.returns-in-None-clause-comes
returns-in-None-clause-comes c =
    comes-after unit (end_reservation c.args.number) c.args.store.now c.occasion_for-occasion.new.store c.args.at (call.EndReservation c.args.session c.args.number) (end-through c.args.session c.args.number c.args.at (world_at c.args.at c.args.store.now) (sym (c.in-None.ensures {u = tt})))
    c.occasion_for-occasion.result c.occasion_for-occasion.ensures.next c.end_reservation-done.new.self.plan c.end_reservation-done.result c.conclude.result (world_of c.conclude.new.store)
    c.occasion_for-occasion.ensures.world (inl c.end_reservation-done.ensures.meets) c.conclude.ensures.concludes c.end_reservation-done.ensures.meets

pub returns-in-None-clause-place : goal.returns-in-None-clause-place
returns-in-None-clause-place c =
    place-after unit (end_reservation c.args.number) c.args.store.now c.occasion_for-occasion.new.store c.args.at (call.EndReservation c.args.session c.args.number) (end-through c.args.session c.args.number c.args.at (world_at c.args.at c.args.store.now) (sym (c.in-None.ensures {u = tt})))
    c.occasion_for-occasion.result c.occasion_for-occasion.ensures.next c.end_reservation-done.new.self.plan c.end_reservation-done.result c.conclude.result (world_of c.conclude.new.store)
    c.occasion_for-occasion.ensures.world (inl c.end_reservation-done.ensures.meets) c.conclude.ensures.concludes c.conclude.new.store c.occasion_for-occasion.ensures.place (end-outcome c.args.number c.occasion_for-occasion.result.entry)
    c.requires.store.consistent.fit c.conclude.ensures.keeps.len c.conclude.ensures.keeps.more (ap (λ (v : View). v.plan) c.conclude.ensures.core)

pub returns-in-None-clause-spare : goal.returns-in-None-clause-spare
returns-in-None-clause-spare c =
    (let due = due-after unit (end_reservation c.args.number) c.args.store.now c.occasion_for-occasion.new.store c.args.at (call.EndReservation c.args.session c.args.number) (end-through c.args.session c.args.number c.args.at (world_at c.args.at c.args.store.now) (sym (c.in-None.ensures {u = tt})))
    c.occasion_for-occasion.result c.occasion_for-occasion.ensures.next c.end_reservation-done.new.self.plan c.end_reservation-done.result c.conclude.result (world_of c.conclude.new.store)
    c.occasion_for-occasion.ensures.world (inl c.end_reservation-done.ensures.meets) c.conclude.ensures.concludes (end-outcome c.args.number c.occasion_for-occasion.result.entry) c.requires.store.consistent.fit in
    let same = c.end_reservation-done.ensures.spare in
    operation-spare c.args.store.now c.occasion_for-occasion.new.store c.conclude.new.store c.end_reservation-done.new.self c.occasion_for-occasion.ensures.keeps c.occasion_for-occasion.ensures.core
    c.conclude.ensures.core c.conclude.ensures.keeps.len c.conclude.ensures.keeps.more due (omega (arith, same)))
