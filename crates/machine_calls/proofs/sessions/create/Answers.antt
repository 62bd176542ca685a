use Rattle.std.proofs.Common.{List, ℕ, Option, refl, subst, arith}
use Rattle.machine_readings.specs.Stores.{world_of}
use Rattle.machine_calls.specs.Opening.{create_call}
use Rattle.machine_calls.specs.Serving.{Comes}
use Rattle.machine_calls.proofs.Openings.{create-plain}
use Rattle.machine_calls.proofs.Sizes.{planned, hindered}
use Rattle.machine_calls.proofs.sessions.create.Goals as goal

pub returns-in-Ok-clause-comes : goal.returns-in-Ok-clause-comes
returns-in-Ok-clause-comes c =
    subst (λ (name : Option (List ℕ)). Comes (world_of c.args.store.now) c.args.at (create_call c.args.kind name) c.create_named.result (world_of c.create_named.new.store)) (c.in-Ok.ensures {u = tt}) c.create_named.ensures.comes

pub returns-in-Err-clause-comes : goal.returns-in-Err-clause-comes
returns-in-Err-clause-comes c =
    (let w = world_of c.args.store.now in
    let asked = create_call c.args.kind c.args.name.now in
    let size = c.size_with.ensures in
    hindered w w c.args.at asked c.size_with.result c.hindrance.result (planned w c.args.at asked c.requires.store.consistent (create-plain c.args.kind c.args.name.now)) (omega (arith, size)) c.hindrance.ensures.full c.hindrance.ensures.short refl)
