use Rattle.std.proofs.Common.{ap, refl, arith}
use Rattle.std.proofs.lemmas.Result.{err_from_is_err_and}
use Rattle.drmaa_model.specs.declared.replies.Reply.TheVariants as reply
use Rattle.drmaa_model.specs.Plan.{Plan}
use Rattle.scheduler_core.specs.Facts.{reports_to_come}
use Rattle.machine_readings.specs.Stores.{world_of}
use Rattle.machine_calls.proofs.Orders.{launch-comes, launch-due, launch-lacked, launch-missed, launch-then, launch-uncopied}
use Rattle.machine_calls.proofs.launches.hand_out.Goals as goal

pub take_launch-requires : goal.take_launch-requires
take_launch-requires c = record { next = launch-then (world_of c.args.store.now) c.args.at c.next_occasion-occasion.result c.next_occasion-occasion.ensures.next c.args.next c.requires.next }

pub returns-in_err-recorded-clause-comes : goal.returns-in_err-recorded-clause-comes
returns-in_err-recorded-clause-comes c =
    (let e = err_from_is_err_and c.from_residual.result c.from_residual.ensures.1 in
    rw (e.1, e.2) (launch-uncopied (world_of c.args.store.now) c.args.at c.args.next.launch c.requires.fit c.requires.told c.requires.within))

pub returns-in-Ok-clause-comes : goal.returns-in-Ok-clause-comes
returns-in-Ok-clause-comes c =
    launch-comes (world_of c.args.store.now) c.args.at c.args.next.launch c.requires.fit c.requires.told c.requires.within c.next_occasion-occasion.result c.next_occasion-occasion.ensures.next c.take_launch.new.self.plan c.take_launch.result c.take_launch.ensures.meets
    c.in-Ok.field-0 c.in-Ok.is _ (record { told = refl; recorded = ap reply.Launch (c.in_ok-recorded.ensures {u = tt}) })

pub returns-in-Ok-clause-place : goal.returns-in-Ok-clause-place
returns-in-Ok-clause-place c =
    (let due = launch-due (world_of c.args.store.now) c.args.at c.args.next.launch c.requires.fit c.requires.told c.requires.within c.next_occasion-occasion.result c.next_occasion-occasion.ensures.next c.take_launch.new.self.plan c.take_launch.result c.take_launch.ensures.meets
    c.in-Ok.field-0 c.in-Ok.is in
    let room = c.requires.room in
    omega (arith, due, room))

pub returns-in-Err-clause-comes : goal.returns-in-Err-clause-comes
returns-in-Err-clause-comes c =
    launch-lacked (world_of c.args.store.now) c.args.at c.args.next.launch c.requires.fit c.requires.told c.requires.within c.next_occasion-occasion.result c.next_occasion-occasion.ensures.next c.take_launch.new.self.plan c.take_launch.result c.take_launch.ensures.meets
    c.in-Err.fault c.in-Err.is

pub returns-in-Err-clause-unspent : goal.returns-in-Err-clause-unspent
returns-in-Err-clause-unspent c =
    (let same = ap (λ (p : Plan). reports_to_come p.rows)
    (launch-missed (world_of c.args.store.now) c.args.at c.args.next.launch c.requires.fit c.requires.told c.requires.within c.next_occasion-occasion.result c.next_occasion-occasion.ensures.next c.take_launch.new.self.plan c.take_launch.result c.take_launch.ensures.meets
    c.in-Err.fault c.in-Err.is) in
    let kept = (c.in-Err.ensures {u = tt}).err in
    omega (arith, same, kept))
