use Rattle.std.proofs.Common.{◌+◌, None, refl, ap, arith}
use Rattle.session_table.specs.Sessions.{monitor_refusal, opened}
use Rattle.drmaa_types.specs.declared.sessions.SessionKind.TheVariants.{Monitoring}
use Rattle.drmaa_model.specs.declared.calls.Call.TheVariants as call
use Rattle.drmaa_model.specs.Size.{weight}
use Rattle.drmaa_model.specs.World.{World}
use Rattle.machine_readings.specs.Stores.{world_of}
use Rattle.machine_calls.proofs.Openings.{session-after}
use Rattle.machine_calls.proofs.Sizes.{planned, hindered}
use Rattle.machine_calls.proofs.sessions.monitor.Goals as goal

pub returns-in-Err-clause-comes : goal.returns-in-Err-clause-comes
returns-in-Err-clause-comes c =
    (let w = world_of c.args.store.now in
    let asked = call.OpenMonitoring in
    let why = c.in-Err.ensures {u = tt} in
    hindered w (world_of c.make_room.new.store) c.args.at asked (w.entries + 1 + weight w.plan + 0) c.in-Err.why (planned w c.args.at asked c.requires.store.consistent refl) (omega arith) why.full why.short c.make_room.ensures.world)

pub returns-in-Ok-clause-comes : goal.returns-in-Ok-clause-comes
returns-in-Ok-clause-comes c =
    (let made = c.monitor-made.ensures in
    let within = (c.in-Ok.ensures {u = tt}).within in
    session-after c.args.store.now c.make_room.new.store c.args.at (call.OpenMonitoring) c.requires.store.consistent (refl) (omega (arith, within)) c.make_room.ensures.world
    (monitor_refusal) (opened Monitoring None) (λ w. refl) (λ w. refl)
    c.monitor-made.result c.monitor-made.new.self made.refusal made.number made.effect made.unchanged c.open_up.result (world_of c.open_up.new.store) c.open_up.ensures.opens)

pub monitor-made-requires : goal.monitor-made-requires
monitor-made-requires c =
    (let numbers = c.requires.store.consistent.numbers in
    let within = (c.in-Ok.ensures {u = tt}).within in
    let journal = c.requires.store.journal in
    let same = ap (λ (w : World). w.sessions.next_session) c.make_room.ensures.world in
    omega (arith, numbers, within, journal, same))
