use Rattle.std.proofs.Common.{◌≡◌, List, [], refl, sym, ap, subst, ◌∙◌, append-nil}
use Rattle.drmaa_model.specs.declared.configs.Config.{Config}
use Rattle.drmaa_model.specs.declared.entries.Entry.{Entry}
use Rattle.drmaa_model.specs.History.{IsLegal, replay, now_of}
use Rattle.drmaa_model.specs.Time.{advance}
use Rattle.drmaa_machine.specs.ChronicleLaws.{history-told}
use Rattle.drmaa_machine.specs.Chronicles.{history_of}
use Rattle.drmaa_machine.specs.Looks.{IsAnswer}
use Rattle.drmaa_machine.specs.View.{View}
use Rattle.call_history.specs.Clients.{seen_of, number_of}
use Rattle.turn_lock.specs.Tokens.{Named, IsFree}
use Rattle.call_history.proofs.Tellings.{own-told, legal-history}
use Rattle.call_history.proofs.machines.SharedMachine.look_in.Goals as goal

pub returns-clause-client : goal.returns-clause-client
returns-clause-client g c = subst (λ (n : Named Config). IsFree n c.leave.new.pass) c.self.view_is c.leave.ensures.free

pub returns-clause-number : goal.returns-clause-number
returns-clause-number g c = ap number_of c.leave.ensures.pass

pub returns-clause-own : goal.returns-clause-own
returns-clause-own g c = let v = c.leave.new.pass.view in own-told v.seen v.mine v.number c.leave.ensures.own

pub returns-clause-answer : goal.returns-clause-answer
returns-clause-answer g c =
    let ledger = c.args.turn.value.ledger in
    let pass = c.leave.ensures.pass in
    let seen : seen_of c.leave.new.pass ≡ ledger.history = ap seen_of pass ∙ (ap history_of c.requires.seen ∙ history-told ledger.history) in
    let told : IsAnswer (advance (replay ledger.config ledger.history) c.now-at.result) (replay ledger.config ledger.history) c.args.question c.look-answer.result =
    subst (λ (m : View). IsAnswer (advance (now_of m.ledger) c.now-at.result) (now_of m.ledger) c.args.question c.look-answer.result) c.value.ensures c.look-answer.ensures in
    record {
      at = c.now-at.result;
      read = record { told = c.now-at.ensures.given; least = c.now-at.ensures.least; rising = c.now-at.ensures.rising };
      more = record { between = []; seen = ap seen_of pass ∙ sym (append-nil (seen_of c.args.client.now)); others = refl; mine = ap (λ t. history_of t.view.mine) pass };
      told = subst (λ (h : List Entry). IsAnswer (advance (replay c.args.self.now.fixed h) c.now-at.result) (replay c.args.self.now.fixed h) c.args.question c.look-answer.result) (sym seen)
          (subst (λ (k : Config). IsAnswer (advance (replay k ledger.history) c.now-at.result) (replay k ledger.history) c.args.question c.look-answer.result) c.requires.fixed_is told);
    }

pub returns-clause-legal : goal.returns-clause-legal
returns-clause-legal g c =
    subst (λ (n : Named Config). IsLegal n.fixed (seen_of c.leave.new.pass)) c.self.view_is
    (legal-history c.self.inside.lock.fixed c.leave.new.pass.view.seen c.leave.ensures.legal)
