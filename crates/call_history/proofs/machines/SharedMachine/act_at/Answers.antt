use Rattle.std.proofs.Common.{◌≡◌, List, ap, sym, subst, ◌∙◌}
use Rattle.std.proofs.lemmas.Result.{IfErr-weaker}
use Rattle.drmaa_model.specs.declared.configs.Config.{Config}
use Rattle.drmaa_model.specs.declared.entries.Entry.{Entry}
use Rattle.drmaa_model.specs.History.{IsLegal, replay}
use Rattle.drmaa_model.specs.RecordedCalls.{recorded}
use Rattle.drmaa_machine.specs.ChronicleLaws.{history-told}
use Rattle.drmaa_machine.specs.Chronicles.{history_of, MakesNone}
use Rattle.turn_lock.specs.Tokens.{Named, IsFree}
use Rattle.call_history.specs.Clients.{seen_of, number_of}
use Rattle.call_history.proofs.Tellings.{own-told}
use Rattle.call_history.proofs.Turning.{entry_told, acted-number, acted-length, acted-makes, left-more, left-same}
use Rattle.call_history.proofs.machines.SharedMachine.act_at.Goals as goal

pub returns-clause-client : goal.returns-clause-client
returns-clause-client c = subst (λ (n : Named Config). IsFree n c.act.new.pass) c.self.view_is c.act.ensures.free

pub returns-clause-number : goal.returns-clause-number
returns-clause-number c = acted-number c.args.client.now c.act.new.pass (entry_told (number_of c.args.client.now) c.args.at c.args.call) c.act.result c.act.ensures.ok c.act.ensures.err

pub returns-clause-ok : goal.returns-clause-ok
returns-clause-ok c = acted-makes c.args.client.now c.act.new.pass (entry_told (number_of c.args.client.now) c.args.at c.args.call) c.act.result c.act.ensures.ok

pub returns-clause-length : goal.returns-clause-length
returns-clause-length c =
    acted-length c.args.client.now c.act.new.pass (entry_told (number_of c.args.client.now) c.args.at c.args.call) c.act.result c.args.turn.value.ledger.history
    (ap history_of c.requires.seen ∙ history-told c.args.turn.value.ledger.history) c.act.ensures.ok

pub returns-clause-err : goal.returns-clause-err
returns-clause-err c = left-more c.args.client.now c.act.new.pass c.act.result c.act.ensures.err

pub returns-clause-same : goal.returns-clause-same
returns-clause-same c =
    left-same c.args.client.now c.act.new.pass c.act.result c.args.turn.value.ledger.history
    (ap history_of c.requires.seen ∙ history-told c.args.turn.value.ledger.history) c.act.ensures.err

pub returns-clause-fails : goal.returns-clause-fails
returns-clause-fails c =
    let ledger = c.args.turn.value.ledger in
    let config : c.self.inside.lock.fixed ≡ ledger.config = ap (λ (n : Named Config). n.fixed) c.self.view_is ∙ sym c.requires.fixed_is in
    let seen : history_of c.args.client.now.view.seen ≡ ledger.history = ap history_of c.requires.seen ∙ history-told ledger.history in
    IfErr-weaker c.act.result _ _ (λ why f.
    subst (λ (k : Config). MakesNone (replay k ledger.history) c.args.at (recorded c.args.call) why) config
    (subst (λ (l : List Entry). MakesNone (replay c.self.inside.lock.fixed l) c.args.at (recorded c.args.call) why) seen f)) c.act.ensures.fails

pub returns-clause-config : goal.returns-clause-config
returns-clause-config c = c.requires.fixed_is

pub returns-clause-own : goal.returns-clause-own
returns-clause-own c = let v = c.act.new.pass.view in own-told v.seen v.mine v.number c.act.ensures.own

pub returns-clause-legal : goal.returns-clause-legal
returns-clause-legal c = subst (λ (n : Named Config). IsLegal n.fixed (seen_of c.act.new.pass)) c.self.view_is c.act.ensures.legal
