use Rattle.std.proofs.Common.{◌≡◌, ◌+◌, sym, ◌∙◌, ap, arith}
use Rattle.session_table.specs.Sessions.{Sessions, destroyed}
use Rattle.drmaa_model.specs.declared.replies.Reply.{Reply}
use Rattle.drmaa_model.specs.AnswerLaws.{refused-gives, served-gives}
use Rattle.drmaa_model.specs.Effects.{gives, makes, destroy, forget_home}
use Rattle.drmaa_model.specs.Plan.{Plan}
use Rattle.drmaa_model.specs.Size.{size}
use Rattle.drmaa_model.specs.Time.{advance}
use Rattle.drmaa_model.specs.TimeLaws.{weight-advance}
use Rattle.drmaa_model.specs.World.{World, counted}
use Rattle.scheduler_core.specs.Facts.{reports_to_come}
use Rattle.machine_readings.specs.Stores.{world_of}
use Rattle.machine_calls.specs.Opening.{destroy_call}
use Rattle.machine_calls.proofs.Destroying.{destroy-refuses, destroy-does, destroyed-is}
use Rattle.machine_calls.proofs.Dues.{advance-due, forget-due}
use Rattle.machine_calls.proofs.closings.destroy_now.Goals as goal
use Rattle.machine_calls.proofs.closings.destroy_now.Goals.{After-go_on}
use Rattle.machine_calls.specs.declared.replies.Replies.{Replies}
use Rattle.drmaa_model.specs.declared.replies.Reply.TheVariants.{Refused}

pub returns-in-Ok-clause-answered : goal.returns-in-Ok-clause-answered
returns-in-Ok-clause-answered c =
    (let w = world_of c.args.store.now in
    let v = advance w c.args.at in
    let asked = destroy_call c.args.kind c.args.name.now in
    let said = c.in-Ok.ensures {u = tt} in
    let home = c.in-Ok.home in
    let there : counted (record v { sessions = destroyed home v.sessions; plan = forget_home home v.plan }) ≡ counted (record w { sessions = c.destroy.new.self; plan = c.forget_home.new.self.plan }) =
    ap (λ (s : Sessions). counted (record v { sessions = s; plan = forget_home home v.plan })) (sym said.effect) ∙ ap (λ (p : Plan). counted (record w { sessions = c.destroy.new.self; plan = p })) (sym c.forget_home.ensures.plan) in
    served-gives c.args.at v asked (destroy-refuses c.args.kind c.args.name.now c.requires.kind v ∙ said.refusal)
    ∙ destroy-does c.args.kind c.args.name.now c.requires.kind c.args.at v
    ∙ ap (λ (r : Reply). makes r (destroy c.args.kind c.args.name.now v)) (sym c.unit.ensures.told)
    ∙ ap (λ (x : World). makes c.unit.result.told x) (destroyed-is c.args.kind c.args.name.now v home said.home)
    ∙ ap (λ (x : World). gives c.unit.result.told x) there)

pub returns-in-Ok-clause-place : goal.returns-in-Ok-clause-place
returns-in-Ok-clause-place c =
    (let s = c.args.store.now in
    let q = advance (world_of s) c.args.at in
    let less = advance-due (s.entries + 1) c.args.at s.core.plan in
    let fewer = forget-due c.in-Ok.home q.plan in
    let same = ap (λ (p : Plan). reports_to_come p.rows) c.forget_home.ensures.plan in
    let room = c.requires.room in
    omega (arith, less, fewer, same, room))

pub returns-in-Ok-clause-spare : goal.returns-in-Ok-clause-spare
returns-in-Ok-clause-spare c =
    (let s = c.args.store.now in
    let q = advance (world_of s) c.args.at in
    let less = advance-due (s.entries + 1) c.args.at s.core.plan in
    let fewer = forget-due c.in-Ok.home q.plan in
    let same = ap (λ (p : Plan). reports_to_come p.rows) c.forget_home.ensures.plan in
    let kept = c.forget_home.ensures.spare in
    omega (arith, less, fewer, same, kept))

then : (c : After-go_on) → world_of c.go_on.new.store ≡ counted (advance (world_of c.args.store.now) c.args.at)
then c =
    (let w = world_of c.args.store.now in
    c.go_on.ensures.world ∙ ap (λ (s : Sessions). counted (advance (record w { sessions = s }) c.args.at)) (c.in-Err.ensures {u = tt}).unchanged)

pub returns-in-Err-clause-answered : goal.returns-in-Err-clause-answered
returns-in-Err-clause-answered c =
    (let v = advance (world_of c.args.store.now) c.args.at in
    let asked = destroy_call c.args.kind c.args.name.now in
    let told : c.go_on.result.told ≡ Refused c.in-Err.why = ap (λ (r : Replies). r.told) c.go_on.ensures.replies ∙ c.refused.ensures.told in
    refused-gives c.args.at v asked c.in-Err.why (destroy-refuses c.args.kind c.args.name.now c.requires.kind v ∙ (c.in-Err.ensures {u = tt}).refusal)
    ∙ ap (λ (r : Reply). makes r v) (sym told) ∙ ap (λ (x : World). gives c.go_on.result.told x) (sym (then c)))

pub returns-in-Err-clause-size : goal.returns-in-Err-clause-size
returns-in-Err-clause-size c =
    (let s = c.args.store.now in
    ap size (then c) ∙ ap (λ n. s.entries + 1 + n) (weight-advance (s.entries + 1) c.args.at s.core.plan))
