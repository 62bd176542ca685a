use Rattle.std.proofs.Common.{◌+◌, ◌≤◌, refl, sym, subst, arith}
use Rattle.std.specs.Prelude.{Ok}
use Rattle.drmaa_model.specs.Size.{weight}
use Rattle.drmaa_model.specs.World.{World}
use Rattle.machine_readings.specs.Stores.{world_of}
use Rattle.machine_calls.specs.Opening.{destroy_call}
use Rattle.machine_calls.specs.Serving.{Comes}
use Rattle.machine_calls.specs.Serving.Comes.{answers}
use Rattle.machine_calls.proofs.Destroying.{destroy-plain}
use Rattle.machine_calls.proofs.Sizes.{planned, hindered}
use Rattle.machine_calls.proofs.closings.destroy.Goals as goal

pub returns-in-Err-clause-comes : goal.returns-in-Err-clause-comes
returns-in-Err-clause-comes c =
    (let w = world_of c.args.store.now in
    let asked = destroy_call c.args.kind c.args.name.now in
    let why = c.in-Err.ensures {u = tt} in
    hindered w (world_of c.make_room.new.store) c.args.at asked (w.entries + 1 + weight w.plan + 0) c.in-Err.why (planned w c.args.at asked c.requires.store.consistent (destroy-plain c.args.kind c.args.name.now)) (omega arith) why.full why.short c.make_room.ensures.world)

pub returns-in-Ok-clause-comes : goal.returns-in-Ok-clause-comes
returns-in-Ok-clause-comes c =
    (let mid = world_of c.make_room.new.store in
    let next = world_of c.destroy_now.new.store in
    let done = c.destroy_now.ensures in
    let room : mid.entries + 1 + weight mid.plan + 0 ≤ mid.config.journal =
    subst (λ (w : World). w.entries + 1 + weight w.plan + 0 ≤ w.config.journal) (sym c.make_room.ensures.world) (c.in-Ok.ensures {u = tt}).within in
    let within : mid.entries + 1 + weight mid.plan ≤ mid.config.journal = omega (arith, room) in
    subst (λ (w : World). Comes w c.args.at (destroy_call c.args.kind c.args.name.now) (Ok c.destroy_now.result) next) c.make_room.ensures.world
    (answers c.destroy_now.result refl done.answered done.twice (subst (λ n. n ≤ mid.config.journal) (sym done.size) within)))
