use Rattle.std.proofs.Common.{◌≡◌, cond, Some, None, ap, ◌+◌, ◌≤◌, refl, sym, ◌∙◌, subst, arith}
use Rattle.std.proofs.lemmas.Bool.{le-leb, lt-leb}
use Rattle.drmaa_types.specs.declared.refusals.Refusal.TheVariants.{OutOfResource}
use Rattle.drmaa_types.specs.declared.refusals.Limit.TheVariants.{Callbacks}
use Rattle.drmaa_model.specs.declared.calls.Call.TheVariants.{Register}
use Rattle.drmaa_model.specs.Refusals.{refusal}
use Rattle.machine_readings.specs.Stores.{world_at, world_of}
use Rattle.drmaa_model.specs.declared.replies.Reply.{Reply}
use Rattle.drmaa_model.specs.declared.replies.Reply.TheVariants.{Callback}
use Rattle.drmaa_model.specs.AnswerLaws.{served-gives}
use Rattle.drmaa_model.specs.Effects.{gives}
use Rattle.drmaa_model.specs.Size.{size, weight}
use Rattle.drmaa_model.specs.Time.{advance}
use Rattle.drmaa_model.specs.TimeLaws.{weight-advance}
use Rattle.drmaa_model.specs.World.{World, counted}
use Rattle.machine_calls.specs.declared.replies.Replies.{Replies}
use Rattle.machine_calls.specs.Serving.Comes.{answers}
use Rattle.machine_calls.proofs.Sizes.{planned, hindered}
use Rattle.machine_calls.proofs.closings.register.Goals as goal

pub returns-then-store-ge-MOST_CALLBACKS-clause-comes : goal.returns-then-store-ge-MOST_CALLBACKS-clause-comes
returns-then-store-ge-MOST_CALLBACKS-clause-comes c =
    (let v = world_at c.args.at c.args.store.now in
    let is : refusal v Register ≡ Some (OutOfResource Callbacks) = ap (λ b. cond b (Some (OutOfResource Callbacks)) None) (le-leb 64 v.registrations c.if-store-ge-MOST_CALLBACKS.true) in
    c.refuse.ensures.comes Register is)

pub returns-in-Err-clause-comes : goal.returns-in-Err-clause-comes
returns-in-Err-clause-comes c =
    (let w = world_of c.args.store.now in
    let why = c.in-Err.ensures {u = tt} in
    hindered w (world_of c.make_room.new.store) c.args.at Register (w.entries + 1 + weight w.plan + 0) c.in-Err.why (planned w c.args.at Register c.requires.store.consistent refl) (omega arith) why.full why.short c.make_room.ensures.world)

pub returns-in-Ok-clause-comes : goal.returns-in-Ok-clause-comes
returns-in-Ok-clause-comes c =
    (let w = world_of c.args.store.now in
    let v = advance w c.args.at in
    let same = c.make_room.ensures.world in
    let there : world_of c.go_on.new.store ≡ counted (record v { registrations = w.registrations + 1 }) =
    c.go_on.ensures.world ∙ ap (λ (x : World). counted (advance (record x { registrations = x.registrations + 1 }) c.args.at)) same in
    let told : c.go_on.result.told ≡ Callback (w.registrations + 1) =
    ap (λ (r : Replies). r.told) c.go_on.ensures.replies ∙ c.callback.ensures.told ∙ ap (λ (x : World). Callback (x.registrations + 1)) same in
    let recorded : c.go_on.result.recorded ≡ c.go_on.result.told =
    ap (λ (r : Replies). r.recorded) c.go_on.ensures.replies ∙ c.callback.ensures.recorded ∙ sym c.callback.ensures.told ∙ sym (ap (λ (r : Replies). r.told) c.go_on.ensures.replies) in
    let free : refusal v Register ≡ None = ap (λ b. cond b (Some (OutOfResource Callbacks)) None) (lt-leb 64 w.registrations c.if-store-ge-MOST_CALLBACKS.false) in
    let weighed = weight-advance (w.entries + 1) c.args.at w.plan in
    let within = (c.in-Ok.ensures {u = tt}).within in
    answers c.go_on.result refl
    (served-gives c.args.at v Register free ∙ ap (λ (r : Reply). gives r (counted (record v { registrations = w.registrations + 1 }))) (sym told) ∙ ap (λ (x : World). gives c.go_on.result.told x) (sym there))
    recorded
    (subst (λ (x : World). size x ≤ w.config.journal) (sym there) (omega (arith, weighed, within))))
