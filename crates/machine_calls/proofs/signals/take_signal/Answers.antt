use Rattle.std.proofs.Common.{sym, ◌+◌, ◌≤◌, ◌∙◌, ap, subst, arith}
use Rattle.machine_readings.specs.Stores.{world_of}
use Rattle.machine_calls.proofs.Orders.{no-signal, next-signal, next-hindered, next-served}
use Rattle.drmaa_model.specs.declared.calls.Call.TheVariants as call
use Rattle.drmaa_model.specs.declared.replies.Reply.TheVariants as reply
use Rattle.drmaa_model.specs.Launching.{signal}
use Rattle.drmaa_model.specs.Size.{weight}
use Rattle.drmaa_model.specs.Time.{advance_plan}
use Rattle.drmaa_model.specs.World.{World, counted}
use Rattle.scheduler_core.specs.Signals.{IsNext, signal_for}
use Rattle.machine_calls.proofs.signals.take_signal.Goals as goal

pub returns-in-None-clause-comes : goal.returns-in-None-clause-comes
returns-in-None-clause-comes c = no-signal (world_of c.args.store.now) c.args.at (sym (c.in-None.ensures {u = tt}).told)

pub hand_out-requires-clause-next : goal.hand_out-requires-clause-next
hand_out-requires-clause-next c = subst (λ (w : World). IsNext (advance_plan 0 c.args.at w.plan) c.in-Some.next) (sym c.make_room.ensures.world) (c.in-Some.ensures {u = tt}).next

pub hand_out-requires-clause-within : goal.hand_out-requires-clause-within
hand_out-requires-clause-within c =
    let within = (c.in-Ok.ensures {u = tt}).within in
    subst (λ (w : World). w.entries + 1 + weight w.plan ≤ w.config.journal) (sym c.make_room.ensures.world) (omega (arith, within))

pub returns-in-Ok-clause-comes : goal.returns-in-Ok-clause-comes
returns-in-Ok-clause-comes c =
    (let w = world_of c.args.store.now in
    let within = (c.in-Ok.ensures {u = tt}).within in
    let there = c.hand_out.ensures.world ∙ ap (λ (x : World). counted (record x { plan = signal.effect (x.entries + 1) (advance_plan (x.entries + 1) c.args.at x.plan) })) c.make_room.ensures.world in
    next-served w c.args.at call.TakeSignal (reply.Signal (signal_for c.in-Some.next)) (signal.effect (w.entries + 1) (advance_plan (w.entries + 1) c.args.at w.plan)) (w.entries + 1 + weight w.plan)
    (next-signal w c.args.at (signal_for c.in-Some.next) (sym (c.in-Some.ensures {u = tt}).told)) (world_of c.hand_out.new.store) c.hand_out.result c.hand_out.ensures.replies (omega (arith, within)) there)

pub returns-in-Err-clause-comes : goal.returns-in-Err-clause-comes
returns-in-Err-clause-comes c =
    (let w = world_of c.args.store.now in
    let why = c.in-Err.ensures {u = tt} in
    next-hindered w c.args.at call.TakeSignal (reply.Signal (signal_for c.in-Some.next)) (signal.effect (w.entries + 1) (advance_plan (w.entries + 1) c.args.at w.plan)) (w.entries + 1 + weight w.plan)
    (next-signal w c.args.at (signal_for c.in-Some.next) (sym (c.in-Some.ensures {u = tt}).told)) (world_of c.make_room.new.store) (w.entries + 1 + weight w.plan + 0) c.in-Err.why (omega arith) why.full why.short c.make_room.ensures.world)
