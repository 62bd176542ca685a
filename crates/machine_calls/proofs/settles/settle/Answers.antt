use Rattle.std.proofs.Common.{◌≡◌, ◌≤◌, ◌+◌, refl, sym, ◌∙◌, ap, subst, arith}
use Rattle.std.specs.Prelude.{Ok}
use Rattle.drmaa_model.specs.Effects.{gives}
use Rattle.drmaa_model.specs.Size.{size, weight}
use Rattle.drmaa_model.specs.Time.{advance}
use Rattle.drmaa_model.specs.TimeLaws.{weight-advance}
use Rattle.drmaa_model.specs.World.{World, counted}
use Rattle.machine_readings.specs.Stores.{world_of}
use Rattle.machine_calls.specs.declared.replies.Replies.{Replies}
use Rattle.machine_calls.specs.Serving.{Comes}
use Rattle.machine_calls.specs.Serving.Comes.{answers}
use Rattle.machine_calls.proofs.Sizes.{planned-makes, hindered}
use Rattle.machine_calls.proofs.settles.settle.Goals as goal

pub returns-in-Err-clause-comes : goal.returns-in-Err-clause-comes
returns-in-Err-clause-comes c = λ asked is.
    (let w = world_of c.args.store.now in
    let why = c.in-Err.ensures {u = tt} in
    hindered w (world_of c.make_room.new.store) c.args.at asked (w.entries + 1 + weight w.plan + 0) c.in-Err.why (planned-makes w c.args.at asked c.args.replies.told is) (omega arith) why.full why.short c.make_room.ensures.world)

pub returns-in-Ok-clause-comes : goal.returns-in-Ok-clause-comes
returns-in-Ok-clause-comes c = λ asked is.
    (let w = world_of c.args.store.now in
    let there : world_of c.go_on.new.store ≡ counted (advance w c.args.at) =
    c.go_on.ensures.world ∙ ap (λ (x : World). counted (advance x c.args.at)) c.make_room.ensures.world in
    let same = weight-advance (w.entries + 1) c.args.at w.plan in
    let within = (c.in-Ok.ensures {u = tt}).within in
    subst (λ (r : Replies). Comes w c.args.at asked (Ok r) (world_of c.go_on.new.store)) (sym c.go_on.ensures.replies)
    (answers c.args.replies refl (is ∙ ap (λ (x : World). gives c.args.replies.told x) (sym there)) c.requires.twice
    (subst (λ (x : World). size x ≤ w.config.journal) (sym there) (omega (arith, same, within)))))
