use Rattle.std.proofs.Common.{◌+◌, ap, arith}
use Rattle.drmaa_model.specs.Plan.{Plan}
use Rattle.drmaa_model.specs.World.{counted}
use Rattle.scheduler_core.specs.Facts.{reports_to_come}
use Rattle.machine_calls.proofs.Dues.{advance-due}
use Rattle.machine_readings.specs.Stores.{world_of}
use Rattle.machine_calls.proofs.Orders.{signal-done, signal-made, signal-then}
use Rattle.machine_calls.proofs.signals.hand_out.Goals as goal

pub take_signal-requires : goal.take_signal-requires
take_signal-requires c = record { next = signal-then (world_of c.args.store.now) c.args.at c.next_occasion-occasion.result c.next_occasion-occasion.ensures.next c.args.next.now c.requires.next }

pub unreachable-requires : goal.unreachable-requires
unreachable-requires c =
    signal-made (world_of c.args.store.now) c.args.at c.next_occasion-occasion.result c.next_occasion-occasion.ensures.next c.take_signal.new.self.plan c.take_signal.result c.take_signal.ensures.meets
    c.requires.within (c.take_signal.ensures.memory c.next_occasion-occasion.ensures.memory) c.in-Err.field-0 c.in-Err.is

pub returns-clause-world : goal.returns-clause-world
returns-clause-world c =
    (let w = world_of c.args.store.now in
    ap (λ (p : Plan). counted (record w { plan = p }))
    (signal-done w c.args.at c.next_occasion-occasion.result c.next_occasion-occasion.ensures.next c.take_signal.new.self.plan c.take_signal.result c.take_signal.ensures.meets c.in-Ok.field-0 c.in-Ok.is))

pub returns-clause-place : goal.returns-clause-place
returns-clause-place c =
    (let w = world_of c.args.store.now in
    let same = ap (λ (p : Plan). reports_to_come p.rows)
    (signal-done w c.args.at c.next_occasion-occasion.result c.next_occasion-occasion.ensures.next c.take_signal.new.self.plan c.take_signal.result c.take_signal.ensures.meets c.in-Ok.field-0 c.in-Ok.is) in
    let less = advance-due (w.entries + 1) c.args.at w.plan in
    let room = c.requires.room in
    omega (arith, same, less, room))

pub returns-clause-spare : goal.returns-clause-spare
returns-clause-spare c =
    (let w = world_of c.args.store.now in
    let same = ap (λ (p : Plan). reports_to_come p.rows)
    (signal-done w c.args.at c.next_occasion-occasion.result c.next_occasion-occasion.ensures.next c.take_signal.new.self.plan c.take_signal.result c.take_signal.ensures.meets c.in-Ok.field-0 c.in-Ok.is) in
    let less = advance-due (w.entries + 1) c.args.at w.plan in
    let kept = c.take_signal.ensures.spare in
    omega (arith, same, less, kept))
