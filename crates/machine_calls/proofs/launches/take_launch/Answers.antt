use Rattle.std.proofs.Common.{sym, ◌∙◌, ◌≡◌, ◌+◌, ◌≤◌, Some, refl, ap, subst, arith}
use Rattle.machine_readings.specs.Stores.{world_of}
use Rattle.machine_calls.proofs.Orders.{no-launch, short-launch, next-launch, next-hindered}
use Rattle.std.proofs.lemmas.Result.{on_err_weaker}
use Rattle.std.specs.Option.{option_map}
use Rattle.drmaa_model.specs.declared.calls.Call.TheVariants as call
use Rattle.drmaa_model.specs.declared.replies.Reply.TheVariants as reply
use Rattle.drmaa_model.specs.Fit.{IsFit}
use Rattle.drmaa_model.specs.Launching.{launch}
use Rattle.drmaa_model.specs.Size.{weight}
use Rattle.drmaa_model.specs.Time.{advance_plan}
use Rattle.drmaa_model.specs.World.{World}
use Rattle.scheduler_core.specs.Launches.{IsNext, IsNextIn, handed_out}
use Rattle.machine_calls.specs.Serving.{Comes}
use Rattle.machine_calls.proofs.launches.take_launch.Goals as goal

pub returns-in-Ok-None-clause-comes : goal.returns-in-Ok-None-clause-comes
returns-in-Ok-None-clause-comes c = no-launch (world_of c.args.store.now) c.args.at (sym (c.in-Ok-None.ensures {u = tt}).told ∙ ap (option_map handed_out) c.in-Ok-None.field-0-is)

pub returns-in-Err-clause-comes : goal.returns-in-Err-clause-comes
returns-in-Err-clause-comes c =
    short-launch (world_of c.args.store.now) c.args.at c.size_with.result c.hindrance.result c.requires.store.consistent.fit
    (λ none. (let e = c.next_launch.ensures.nothing none in let f = c.in-Err.is in absurd (cc))) c.size_with.ensures c.hindrance.ensures.full c.hindrance.ensures.short

pub hand_out-requires-clause-fit : goal.hand_out-requires-clause-fit
hand_out-requires-clause-fit c = subst (λ (w : World). IsFit w.plan) (sym c.make_room.ensures.world) c.requires.store.consistent.fit

pub hand_out-requires-clause-next : goal.hand_out-requires-clause-next
hand_out-requires-clause-next c =
    subst (λ (w : World). IsNext (advance_plan 0 c.args.at w.plan) c.in-Ok-Some.next) (sym c.make_room.ensures.world)
    (subst (IsNextIn (advance_plan 0 c.args.at c.args.store.now.core.plan)) c.in-Ok-Some.field-0-is (c.in-Ok-Some.ensures {u = tt}).next)

pub hand_out-requires-clause-told : goal.hand_out-requires-clause-told
hand_out-requires-clause-told c =
    subst (λ (w : World). launch.told (advance_plan 0 c.args.at w.plan) ≡ Some c.in-Ok-Some.next.launch) (sym c.make_room.ensures.world)
    (sym (c.in-Ok-Some.ensures {u = tt}).told ∙ ap (option_map handed_out) c.in-Ok-Some.field-0-is)

pub hand_out-requires-clause-within : goal.hand_out-requires-clause-within
hand_out-requires-clause-within c = subst (λ (w : World). w.entries + 1 + weight w.plan + 4 ≤ w.config.journal) (sym c.make_room.ensures.world) (c.in-Ok.ensures {u = tt}).within

pub returns-in-Ok-clause-comes : goal.returns-in-Ok-clause-comes
returns-in-Ok-clause-comes c =
    subst (λ (w : World). Comes w c.args.at call.TakeLaunch c.hand_out.result (world_of c.hand_out.new.store)) c.make_room.ensures.world c.hand_out.ensures.comes

pub returns-in-Err-make_room-clause-comes : goal.returns-in-Err-make_room-clause-comes
returns-in-Err-make_room-clause-comes c =
    (let w = world_of c.args.store.now in
    let why = c.in-Err-make_room.ensures {u = tt} in
    next-hindered w c.args.at call.TakeLaunch (reply.Launch c.in-Ok-Some.next.launch) (launch.effect (w.entries + 1) (advance_plan (w.entries + 1) c.args.at w.plan)) (w.entries + 1 + weight w.plan + 4)
    (next-launch w c.args.at c.in-Ok-Some.next.launch c.requires.store.consistent.fit (sym (c.in-Ok-Some.ensures {u = tt}).told ∙ ap (option_map handed_out) c.in-Ok-Some.field-0-is)) (world_of c.make_room.new.store) (w.entries + 1 + weight w.plan + 4) c.in-Err-make_room.why refl why.full why.short c.make_room.ensures.world)

pub returns-in-Ok-clause-unspent : goal.returns-in-Ok-clause-unspent
returns-in-Ok-clause-unspent c = on_err_weaker c.hand_out.result (λ kept. (let first = c.make_room.ensures.spare in omega (arith, first, kept))) c.hand_out.ensures.unspent
