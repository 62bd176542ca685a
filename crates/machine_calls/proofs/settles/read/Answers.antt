use Rattle.std.proofs.Common.{refl, arith}
use Rattle.machine_readings.specs.Stores.{world_of}
use Rattle.machine_calls.proofs.Sizes.{planned, hindered, reading-plain}
use Rattle.machine_calls.proofs.settles.read.Goals as goal

pub returns-in-Ok-clause-comes : goal.returns-in-Ok-clause-comes
returns-in-Ok-clause-comes c = c.settle.ensures.comes c.args.call.now (c.in-Ok.ensures {u = tt}).reply

pub returns-in-Err-clause-comes : goal.returns-in-Err-clause-comes
returns-in-Err-clause-comes c =
    (let w = world_of c.args.store.now in
    let asked = c.args.call.now in
    let size = c.size_with.ensures in
    hindered w w c.args.at asked c.size_with.result c.hindrance.result (planned w c.args.at asked c.requires.store.consistent (reading-plain asked c.requires.reading)) (omega (arith, size)) c.hindrance.ensures.full c.hindrance.ensures.short refl)
