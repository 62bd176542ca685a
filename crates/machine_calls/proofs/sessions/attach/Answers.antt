use Rattle.std.proofs.Common.{◌+◌, ap, arith}
use Rattle.session_table.specs.Sessions.{Sessions, open_refusal, opened, home_of}
use Rattle.drmaa_model.specs.Size.{weight}
use Rattle.drmaa_model.specs.World.{World}
use Rattle.machine_readings.specs.Stores.{world_of}
use Rattle.machine_calls.specs.Opening.{open_call}
use Rattle.machine_calls.proofs.Openings.{session-after, open-plain, open-refuses, open-does}
use Rattle.machine_calls.proofs.Sizes.{planned, hindered}
use Rattle.machine_calls.proofs.sessions.attach.Goals as goal

pub returns-in-Err-clause-comes : goal.returns-in-Err-clause-comes
returns-in-Err-clause-comes c =
    (let w = world_of c.args.store.now in
    let asked = open_call c.args.kind c.args.name.now in
    let why = c.in-Err.ensures {u = tt} in
    hindered w (world_of c.make_room.new.store) c.args.at asked (w.entries + 1 + weight w.plan + 0) c.in-Err.why (planned w c.args.at asked c.requires.store.consistent (open-plain c.args.kind c.args.name.now)) (omega arith) why.full why.short c.make_room.ensures.world)

pub returns-in-Ok-clause-comes : goal.returns-in-Ok-clause-comes
returns-in-Ok-clause-comes c =
    (let made = c.attach-made.ensures in
    let within = (c.in-Ok.ensures {u = tt}).within in
    session-after c.args.store.now c.make_room.new.store c.args.at (open_call c.args.kind c.args.name.now) c.requires.store.consistent (open-plain c.args.kind c.args.name.now) (omega (arith, within)) c.make_room.ensures.world
    (open_refusal c.args.kind c.args.name.now) (λ (s : Sessions). opened c.args.kind (home_of c.args.kind c.args.name.now s.named) s) (open-refuses c.args.kind c.args.name.now c.requires.kind c.args.at) (open-does c.args.kind c.args.name.now c.requires.kind c.args.at)
    c.attach-made.result c.attach-made.new.self made.refusal made.number made.effect made.unchanged c.open_up.result (world_of c.open_up.new.store) c.open_up.ensures.opens)

pub attach-made-requires : goal.attach-made-requires
attach-made-requires c =
    (let numbers = c.requires.store.consistent.numbers in
    let within = (c.in-Ok.ensures {u = tt}).within in
    let journal = c.requires.store.journal in
    let same = ap (λ (w : World). w.sessions.next_session) c.make_room.ensures.world in
    omega (arith, numbers, within, journal, same))
