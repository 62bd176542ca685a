use Rattle.std.proofs.Common.{◌+◌, ap, arith}
use Rattle.session_table.specs.Sessions.{create_refusal, created}
use Rattle.drmaa_model.specs.Size.{weight}
use Rattle.drmaa_model.specs.World.{World}
use Rattle.machine_readings.specs.Stores.{world_of}
use Rattle.machine_calls.specs.Opening.{create_call}
use Rattle.machine_calls.proofs.Openings.{session-after, create-plain, create-refuses, create-does}
use Rattle.machine_calls.proofs.Sizes.{planned, hindered}
use Rattle.machine_calls.proofs.sessions.create_named.Goals as goal

pub returns-in-Err-clause-comes : goal.returns-in-Err-clause-comes
returns-in-Err-clause-comes c =
    (let w = world_of c.args.store.now in
    let asked = create_call c.args.kind c.args.name in
    let why = c.in-Err.ensures {u = tt} in
    hindered w (world_of c.make_room.new.store) c.args.at asked (w.entries + 1 + weight w.plan + 0) c.in-Err.why (planned w c.args.at asked c.requires.store.consistent (create-plain c.args.kind c.args.name)) (omega arith) why.full why.short c.make_room.ensures.world)

pub returns-in-Ok-clause-comes : goal.returns-in-Ok-clause-comes
returns-in-Ok-clause-comes c =
    (let made = c.create-made.ensures in
    let within = (c.in-Ok.ensures {u = tt}).within in
    session-after c.args.store.now c.make_room.new.store c.args.at (create_call c.args.kind c.args.name) c.requires.store.consistent (create-plain c.args.kind c.args.name) (omega (arith, within)) c.make_room.ensures.world
    (create_refusal c.args.kind c.args.name) (created c.args.kind c.args.name) (create-refuses c.args.kind c.args.name c.requires.kind c.args.at) (create-does c.args.kind c.args.name c.requires.kind c.args.at)
    c.create-made.result c.create-made.new.self made.refusal made.number made.effect made.unchanged c.open_up.result (world_of c.open_up.new.store) c.open_up.ensures.opens)

pub create-made-requires-clause-next_session : goal.create-made-requires-clause-next_session
create-made-requires-clause-next_session c =
    (let numbers = c.requires.store.consistent.numbers in
    let within = (c.in-Ok.ensures {u = tt}).within in
    let journal = c.requires.store.journal in
    let same = ap (λ (w : World). w.sessions.next_session) c.make_room.ensures.world in
    omega (arith, numbers, within, journal, same))

pub create-made-requires-clause-next_home : goal.create-made-requires-clause-next_home
create-made-requires-clause-next_home c =
    (let numbers = c.requires.store.consistent.homes in
    let within = (c.in-Ok.ensures {u = tt}).within in
    let journal = c.requires.store.journal in
    let same = ap (λ (w : World). w.sessions.next_home) c.make_room.ensures.world in
    omega (arith, numbers, within, journal, same))
