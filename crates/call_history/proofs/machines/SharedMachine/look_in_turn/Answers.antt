use Rattle.std.proofs.Common.{◌≡◌, refl, ap, sym, subst, ◌∙◌, true, false, IfErr}
use Rattle.std.proofs.lemmas.Result.{IfOk-weaker}
use Rattle.drmaa_model.specs.declared.calls.Call.{Call}
use Rattle.drmaa_model.specs.Effects.{not_yet}
use Rattle.drmaa_model.specs.RecordedCalls.{recorded}
use Rattle.drmaa_model.specs.History.{IsLegal, now_of}
use Rattle.drmaa_model.specs.Steps.{answer}
use Rattle.drmaa_machine.specs.ChronicleLaws.{history-told}
use Rattle.drmaa_machine.specs.Chronicles.{history_of, MakesNone}
use Rattle.drmaa_machine.specs.View.{View}
use Rattle.drmaa_machine.specs.Waits.{call_of}
use Rattle.call_history.specs.Calls.{entry_by}
use Rattle.call_history.specs.Clients.{seen_of, mine_of, number_of, Makes}
use Rattle.drmaa_model.specs.declared.configs.Config.{Config}
use Rattle.turn_lock.specs.Tokens.{Named, IsFree}
use Rattle.call_history.proofs.Tellings.{own-told, legal-history}
use Rattle.call_history.proofs.Turning.{unserved-now, sees-now, over-look, decided-now, err-three, not-over}
use Rattle.call_history.proofs.machines.SharedMachine.look_in_turn.Goals as goal

pub returns-then-must_wait-clause-client : goal.returns-then-must_wait-clause-client
returns-then-must_wait-clause-client g c = subst (λ (n : Named Config). IsFree n c.leave.new.pass) c.self.view_is c.leave.ensures.free

pub returns-then-must_wait-clause-number : goal.returns-then-must_wait-clause-number
returns-then-must_wait-clause-number g c = ap number_of c.leave.ensures.pass

pub returns-then-must_wait-clause-decided : goal.returns-then-must_wait-clause-decided
returns-then-must_wait-clause-decided g c = λ is. not-over c.args.awaited _ is

pub returns-clause-client : goal.returns-clause-client
returns-clause-client g c = c.act_at.ensures.client

pub returns-clause-number : goal.returns-clause-number
returns-clause-number g c = c.act_at.ensures.number

pub returns-clause-own : goal.returns-clause-own
returns-clause-own g c = c.act_at.ensures.own

pub returns-clause-legal : goal.returns-clause-legal
returns-clause-legal g c = c.act_at.ensures.legal

pub returns-then-must_wait-clause-own : goal.returns-then-must_wait-clause-own
returns-then-must_wait-clause-own g c = let v = c.leave.new.pass.view in own-told v.seen v.mine v.number c.leave.ensures.own

pub returns-then-must_wait-clause-look : goal.returns-then-must_wait-clause-look
returns-then-must_wait-clause-look g c =
    let ledger = c.args.turn.value.ledger in
    let asked = call_of c.args.awaited in
    let new = c.leave.new.pass in
    let pass = c.leave.ensures.pass in
    let waits : answer (now_of ledger) c.now-at.result asked ≡ not_yet =
    subst (λ (m : View). answer (now_of m.ledger) c.now-at.result asked ≡ not_yet) c.value.ensures (c.must_wait.ensures.0 c.if-must_wait.true) in (
      refl,
      unserved-now c.args.self.now.fixed _ c.args.client.now asked _ _ new c.now-at.result ledger
          (record { told = c.now-at.ensures.given; least = c.now-at.ensures.least; rising = c.now-at.ensures.rising })
          c.requires.fixed_is
          (ap seen_of pass ∙ (ap history_of c.requires.seen ∙ history-told ledger.history))
          (sees-now c.args.client.now new (ap seen_of pass) (ap mine_of pass))
          (record { cause = waits; unreported = λ reports free. absurd (cc) }),
    )

pub returns-clause-look : goal.returns-clause-look
returns-clause-look g c =
    let ledger = c.args.turn.value.ledger in
    let asked = call_of c.args.awaited in
    let r = c.act_at.result in
    over-look c.args.self.now.fixed _ c.args.client.now c.args.awaited _ c.act_at.new.client r
    (IfOk-weaker r _ _ (λ reply made. record {
      at = c.now-at.result;
      read = record { told = c.now-at.ensures.given; least = c.now-at.ensures.least; rising = c.now-at.ensures.rising };
      made = subst (λ (call : Call). Makes c.args.client.now (entry_by (number_of c.args.client.now) c.now-at.result call reply) c.act_at.new.client) c.into_call.ensures made;
    }) c.act_at.ensures.ok)
    (err-three r _ _ _ _ c.act_at.ensures.err c.act_at.ensures.same c.act_at.ensures.fails (λ why more seen reason.
    unserved-now c.args.self.now.fixed _ c.args.client.now asked why _ c.act_at.new.client c.now-at.result ledger (record { told = c.now-at.ensures.given; least = c.now-at.ensures.least; rising = c.now-at.ensures.rising }) c.requires.fixed_is seen more
    (subst (λ (call : Call). MakesNone (now_of ledger) c.now-at.result (recorded call) why) c.into_call.ensures reason)))

pub returns-clause-decided : goal.returns-clause-decided
returns-clause-decided g c = λ is.
    let ledger = c.args.turn.value.ledger in
    let asked = call_of c.args.awaited in
    decided-now (now_of ledger) c.now-at.result asked c.act_at.result
    (subst (λ (call : Call). IfErr c.act_at.result (MakesNone (now_of ledger) c.now-at.result (recorded call))) c.into_call.ensures c.act_at.ensures.fails)
    (λ waits.
    let true_so : c.must_wait.result ≡ true = c.must_wait.ensures.1 (subst (λ (m : View). answer (now_of m.ledger) c.now-at.result asked ≡ not_yet) (sym c.value.ensures) waits) in
    let false_so : c.must_wait.result ≡ false = c.if-must_wait.false in absurd (cc))
    is

pub returns-then-must_wait-clause-legal : goal.returns-then-must_wait-clause-legal
returns-then-must_wait-clause-legal g c =
    subst (λ (n : Named Config). IsLegal n.fixed (seen_of c.leave.new.pass)) c.self.view_is
    (legal-history c.self.inside.lock.fixed c.leave.new.pass.view.seen c.leave.ensures.legal)
