use Rattle.std.proofs.Common.{ap, subst, ◌∙◌}
use Rattle.std.proofs.lemmas.Result.{IfErr-weaker, IfOk-weaker}
use Rattle.drmaa_model.specs.declared.configs.Config.{Config}
use Rattle.drmaa_model.specs.History.{IsLegal}
use Rattle.turn_lock.specs.Tokens.{Named}
use Rattle.call_history.specs.Clients.{seen_of, SeesMore}
use Rattle.call_history.proofs.Tellings.{own-told, legal-history}
use Rattle.call_history.proofs.Turning.{entered, served-both, unserved-both, tried-ok, tried-err, tried-busy}
use Rattle.call_history.proofs.machines.SharedMachine.try_call.Goals as goal

pub returns-in-Ok-clause-number : goal.returns-in-Ok-clause-number
returns-in-Ok-clause-number g c = c.serve.ensures.number ∙ ap (λ v. v.number) c.in-Ok.ensures.view

pub returns-in-Ok-clause-ok : goal.returns-in-Ok-clause-ok
returns-in-Ok-clause-ok g c =
    let mid = c.try_enter.new.pass in
    let old = c.args.client.now in
    let view = c.in-Ok.ensures.view in
    let more : SeesMore old mid = entered c.self.inside.lock old mid c.in-Ok.turn c.in-Ok.ensures.enters c.in-Ok.ensures.together.seen (ap (λ v. v.mine) view) in
    tried-ok c.serve.result c.tried.result _ (record { ok = c.tried.ensures.ok; err = c.tried.ensures.err })
    (IfOk-weaker c.serve.result _ _ (λ reply s. served-both old mid c.serve.new.client more (ap (λ v. v.number) view) _ _ c.args.call reply s) c.serve.ensures.ok)

pub returns-in-Ok-clause-err : goal.returns-in-Ok-clause-err
returns-in-Ok-clause-err g c =
    let mid = c.try_enter.new.pass in
    let old = c.args.client.now in
    let view = c.in-Ok.ensures.view in
    let more : SeesMore old mid = entered c.self.inside.lock old mid c.in-Ok.turn c.in-Ok.ensures.enters c.in-Ok.ensures.together.seen (ap (λ v. v.mine) view) in
    tried-err c.serve.result c.tried.result _ (record { ok = c.tried.ensures.ok; err = c.tried.ensures.err })
    (IfErr-weaker c.serve.result _ _ (λ why u. unserved-both old mid c.serve.new.client more (ap (λ v. v.number) view) c.args.self.now.fixed _ _ c.args.call why u) c.serve.ensures.err)

pub returns-in-Ok-clause-unread : goal.returns-in-Ok-clause-unread
returns-in-Ok-clause-unread g c = λ low high is. absurd (tried-busy c.serve.result c.tried.result low high (record { ok = c.tried.ensures.ok; err = c.tried.ensures.err }) is)

pub returns-in-Err-clause-own : goal.returns-in-Err-clause-own
returns-in-Err-clause-own g c = let v = c.try_enter.new.pass.view in own-told v.seen v.mine v.number c.in-Err.ensures.own

pub returns-in-Err-clause-legal : goal.returns-in-Err-clause-legal
returns-in-Err-clause-legal g c =
    subst (λ (n : Named Config). IsLegal n.fixed (seen_of c.try_enter.new.pass)) c.self.view_is
    (legal-history c.self.inside.lock.fixed c.try_enter.new.pass.view.seen c.try_enter.ensures.legal)
