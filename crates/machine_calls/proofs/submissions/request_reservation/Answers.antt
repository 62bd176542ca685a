use Rattle.std.proofs.Common.{sym, refl, subst, arith}
use Rattle.drmaa_model.specs.declared.calls.Call.TheVariants as call
use Rattle.machine_readings.specs.Stores.{world_at, world_of}
use Rattle.machine_calls.proofs.Submits.{request-first}
use Rattle.job_template.specs.declared.templates.ReservationTemplate.{ReservationTemplate}
use Rattle.machine_calls.specs.Serving.{Comes}
use Rattle.machine_calls.proofs.Sizes.{planned, hindered}
use Rattle.machine_calls.proofs.submissions.request_reservation.Goals as goal

pub returns-in-Some-clause-comes : goal.returns-in-Some-clause-comes
returns-in-Some-clause-comes c = c.refuse.ensures.comes (call.RequestReservation c.args.session c.args.template.now) (request-first c.args.session c.args.template.now (world_at c.args.at c.args.store.now) c.in-Some.why (sym (c.in-Some.ensures {u = tt})))

pub request_now-requires-clause-own : goal.request_now-requires-clause-own
request_now-requires-clause-own c = sym (c.in-None.ensures {u = tt})

pub returns-in-Err-clause-comes : goal.returns-in-Err-clause-comes
returns-in-Err-clause-comes c =
    (let w = world_of c.args.store.now in
    let asked = call.RequestReservation c.args.session c.args.template.now in
    let size = c.size_with.ensures in
    hindered w w c.args.at asked c.size_with.result c.hindrance.result (planned w c.args.at asked c.requires.store.consistent refl) (omega (arith, size)) c.hindrance.ensures.full c.hindrance.ensures.short refl)

pub returns-in-Ok-clause-comes : goal.returns-in-Ok-clause-comes
returns-in-Ok-clause-comes c =
    subst (λ (t : ReservationTemplate). Comes (world_of c.args.store.now) c.args.at (call.RequestReservation c.args.session t) c.request_now.result (world_of c.request_now.new.store)) (c.in-Ok.ensures.cases) c.request_now.ensures.comes
