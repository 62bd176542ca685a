use Rattle.std.proofs.Common.{sym, ◌≡◌, ◌+◌, ◌≤◌, true, List, [], ◌∷◌, refl, ◌∙◌, ap, subst, arith}
use Rattle.drmaa_model.specs.declared.calls.Call.TheVariants as call
use Rattle.std.proofs.lemmas.Bool.{not-false}
use Rattle.session_table.specs.Sessions.{closed}
use Rattle.drmaa_types.specs.declared.sessions.SessionKind.{SessionKind}
use Rattle.drmaa_types.specs.declared.sessions.SessionKind.TheVariants.{Jobs, Reservations, Monitoring}
use Rattle.drmaa_model.specs.declared.replies.Reply.{Reply}
use Rattle.drmaa_model.specs.AnswerLaws.{served-gives}
use Rattle.drmaa_model.specs.Effects.{gives}
use Rattle.drmaa_model.specs.Homes.{is_open, session_test}
use Rattle.drmaa_model.specs.OperationLaws.{no_test}
use Rattle.drmaa_model.specs.Size.{size, weight}
use Rattle.drmaa_model.specs.Time.{advance}
use Rattle.drmaa_model.specs.TimeLaws.{weight-advance}
use Rattle.drmaa_model.specs.World.{World, counted}
use Rattle.machine_readings.specs.Stores.{world_of}
use Rattle.machine_calls.specs.Serving.Comes.{answers}
use Rattle.machine_calls.proofs.Sizes.{planned, hindered}
use Rattle.machine_calls.proofs.closings.close.Goals as goal

pub returns-in-Some-clause-comes : goal.returns-in-Some-clause-comes
returns-in-Some-clause-comes c = c.refuse.ensures.comes (call.CloseSession c.args.session) (sym (c.in-Some.ensures {u = tt}))

pub close_now-requires-clause-valid : goal.close_now-requires-clause-valid
close_now-requires-clause-valid c =
    (let kinds : List SessionKind = Jobs ∷ Reservations ∷ Monitoring ∷ [] in
    let v = advance (world_of c.args.store.now) c.args.at in
    let valid : is_open kinds c.args.session v.sessions ≡ true = not-false (is_open kinds c.args.session v.sessions) (no_test (session_test kinds c.args.session v) [] (sym (c.in-None.ensures {u = tt}))).0 in
    subst (λ (w : World). is_open kinds c.args.session w.sessions ≡ true) (sym c.make_room.ensures.world) valid)

pub returns-in-Err-clause-comes : goal.returns-in-Err-clause-comes
returns-in-Err-clause-comes c =
    (let w = world_of c.args.store.now in
    let asked = call.CloseSession c.args.session in
    let why = c.in-Err.ensures {u = tt} in
    hindered w (world_of c.make_room.new.store) c.args.at asked (w.entries + 1 + weight w.plan + 0) c.in-Err.why (planned w c.args.at asked c.requires.store.consistent refl) (omega arith) why.full why.short c.make_room.ensures.world)

pub returns-in-Ok-clause-comes : goal.returns-in-Ok-clause-comes
returns-in-Ok-clause-comes c =
    (let w = world_of c.args.store.now in
    let v = advance w c.args.at in
    let asked = call.CloseSession c.args.session in
    let next : World = counted (record v { sessions = closed c.args.session.0 v.sessions }) in
    let there : world_of c.close_now.new.store ≡ next =
    c.close_now.ensures.world ∙ ap (λ (x : World). counted (record (advance x c.args.at) { sessions = closed c.args.session.0 x.sessions })) c.make_room.ensures.world in
    let both = c.close_now.ensures.unit in
    let weighed = weight-advance (w.entries + 1) c.args.at w.plan in
    let within = (c.in-Ok.ensures {u = tt}).within in
    answers c.close_now.result refl
    (served-gives c.args.at v asked (sym (c.in-None.ensures {u = tt})) ∙ ap (λ (r : Reply). gives r next) (sym both.told) ∙ ap (λ (x : World). gives c.close_now.result.told x) (sym there))
    (both.recorded ∙ sym both.told)
    (subst (λ (x : World). size x ≤ w.config.journal) (sym there) (omega (arith, weighed, within))))
