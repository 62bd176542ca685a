use Rattle.std.proofs.Common.{◌+◌, ap, arith}
use Rattle.drmaa_model.specs.Plan.{Plan}
use Rattle.drmaa_model.specs.World.{counted}
use Rattle.scheduler_core.specs.Facts.{reports_to_come}
use Rattle.machine_readings.specs.Stores.{world_of}
use Rattle.machine_calls.proofs.Dues.{advance-due}
use Rattle.machine_calls.proofs.settles.go_on.Goals as goal

pub returns-clause-world : goal.returns-clause-world
returns-clause-world c = ap (λ (p : Plan). counted (record (world_of c.args.store.now) { plan = p })) c.advance.ensures.plan

pub returns-clause-place : goal.returns-clause-place
returns-clause-place c =
    (let s = c.args.store.now in
    let less = advance-due (s.entries + 1) c.args.at s.core.plan in
    let same = ap (λ (p : Plan). reports_to_come p.rows) c.advance.ensures.plan in
    let room = c.requires.room in
    omega (arith, less, same, room))

pub returns-clause-spare : goal.returns-clause-spare
returns-clause-spare c =
    (let s = c.args.store.now in
    let less = advance-due (s.entries + 1) c.args.at s.core.plan in
    let same = ap (λ (p : Plan). reports_to_come p.rows) c.advance.ensures.plan in
    let kept = c.advance.ensures.spare in
    omega (arith, less, same, kept))
