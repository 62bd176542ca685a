use Rattle.std.proofs.Common.{inl, ap, arith}
use Rattle.drmaa_model.specs.declared.calls.Call.TheVariants as call
use Rattle.drmaa_model.specs.declared.replies.Reply.TheVariants as reply
use Rattle.drmaa_model.specs.Requests.{request}
use Rattle.machine_readings.specs.Stores.{world_of, world_at}
use Rattle.scheduler_core.specs.View.{View}
use Rattle.machine_calls.proofs.Placed.{comes-after, due-after, place-after}
use Rattle.machine_calls.proofs.Spares.{operation-spare}
use Rattle.machine_calls.proofs.Submits.{request-through, request-outcome}
use Rattle.machine_calls.proofs.submissions.request_now.Goals as goal

pub returns-clause-comes : goal.returns-clause-comes
returns-clause-comes c =
    comes-after reply.Reserved (request c.home_number-home.result c.args.template) c.args.store.now c.occasion_for-occasion.new.store c.args.at (call.RequestReservation c.args.session c.args.template) (request-through c.args.session c.args.template c.args.at (world_at c.args.at c.args.store.now) c.requires.own c.home_number-home.result c.home_number-home.ensures)
    c.occasion_for-occasion.result c.occasion_for-occasion.ensures.next c.request_reservation-done.new.self.plan c.request_reservation-done.result c.conclude_reserved.result (world_of c.conclude_reserved.new.store)
    c.occasion_for-occasion.ensures.world (inl c.request_reservation-done.ensures.meets) c.conclude_reserved.ensures.concludes c.request_reservation-done.ensures.meets

pub returns-clause-place : goal.returns-clause-place
returns-clause-place c =
    place-after reply.Reserved (request c.home_number-home.result c.args.template) c.args.store.now c.occasion_for-occasion.new.store c.args.at (call.RequestReservation c.args.session c.args.template) (request-through c.args.session c.args.template c.args.at (world_at c.args.at c.args.store.now) c.requires.own c.home_number-home.result c.home_number-home.ensures)
    c.occasion_for-occasion.result c.occasion_for-occasion.ensures.next c.request_reservation-done.new.self.plan c.request_reservation-done.result c.conclude_reserved.result (world_of c.conclude_reserved.new.store)
    c.occasion_for-occasion.ensures.world (inl c.request_reservation-done.ensures.meets) c.conclude_reserved.ensures.concludes c.conclude_reserved.new.store c.occasion_for-occasion.ensures.place (request-outcome c.home_number-home.result c.args.template c.occasion_for-occasion.result.entry)
    c.requires.store.consistent.fit c.conclude_reserved.ensures.keeps.len c.conclude_reserved.ensures.keeps.more (ap (λ (v : View). v.plan) c.conclude_reserved.ensures.core)

pub returns-clause-spare : goal.returns-clause-spare
returns-clause-spare c =
    (let due = due-after reply.Reserved (request c.home_number-home.result c.args.template) c.args.store.now c.occasion_for-occasion.new.store c.args.at (call.RequestReservation c.args.session c.args.template) (request-through c.args.session c.args.template c.args.at (world_at c.args.at c.args.store.now) c.requires.own c.home_number-home.result c.home_number-home.ensures)
    c.occasion_for-occasion.result c.occasion_for-occasion.ensures.next c.request_reservation-done.new.self.plan c.request_reservation-done.result c.conclude_reserved.result (world_of c.conclude_reserved.new.store)
    c.occasion_for-occasion.ensures.world (inl c.request_reservation-done.ensures.meets) c.conclude_reserved.ensures.concludes (request-outcome c.home_number-home.result c.args.template c.occasion_for-occasion.result.entry) c.requires.store.consistent.fit in
    let same = c.request_reservation-done.ensures.spare in
    operation-spare c.args.store.now c.occasion_for-occasion.new.store c.conclude_reserved.new.store c.request_reservation-done.new.self c.occasion_for-occasion.ensures.keeps c.occasion_for-occasion.ensures.core
    c.conclude_reserved.ensures.core c.conclude_reserved.ensures.keeps.len c.conclude_reserved.ensures.keeps.more due (omega (arith, same)))
