use Rattle.std.proofs.Common.{ap, subst}
use Rattle.drmaa_model.specs.declared.configs.Config.{Config}
use Rattle.drmaa_model.specs.History.{IsLegal}
use Rattle.turn_lock.specs.Tokens.{Named}
use Rattle.call_history.specs.Clients.{seen_of, SeesMore}
use Rattle.call_history.proofs.Tellings.{own-told, legal-history}
use Rattle.call_history.proofs.Turning.{entered, looked-both}
use Rattle.call_history.proofs.machines.SharedMachine.try_look.Goals as goal

pub returns-in_err-turn-clause-own : goal.returns-in_err-turn-clause-own
returns-in_err-turn-clause-own g c =
    let v = c.try_enter.new.pass.view in own-told v.seen v.mine v.number c.in_err-turn.ensures.own

pub returns-in_err-turn-clause-legal : goal.returns-in_err-turn-clause-legal
returns-in_err-turn-clause-legal g c =
    subst (λ (n : Named Config). IsLegal n.fixed (seen_of c.try_enter.new.pass)) c.self.view_is
    (legal-history c.self.inside.lock.fixed c.try_enter.new.pass.view.seen c.try_enter.ensures.legal)

pub returns-clause-ok : goal.returns-clause-ok
returns-clause-ok g c =
    let mid = c.try_enter.new.pass in
    let old = c.args.client.now in
    let view = c.in_ok-turn.ensures.view in
    let more : SeesMore old mid = entered c.self.inside.lock old mid c.in_ok-turn.turn c.in_ok-turn.ensures.enters c.in_ok-turn.ensures.together.seen (ap (λ v. v.mine) view) in
    looked-both old mid c.look_in.new.client more (ap (λ v. v.number) view) c.args.self.now.fixed _ _ c.args.question c.look_in.result c.look_in.ensures.answer
