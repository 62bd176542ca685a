use Rattle.std.proofs.Common.{sym, ap, ◌∙◌}
use Rattle.call_history.proofs.Tellings.{own-told, clean-told}
use Rattle.call_history.proofs.machines.SharedMachine.open_client.Goals as goal

pub returns-clause-own : goal.returns-clause-own
returns-clause-own c =
    let v = c.open_pass.result.view in
    own-told v.seen v.mine v.number (c.open_pass.ensures.own ∙ sym (ap (λ t. t.view.mine) c.open_pass.ensures.pass))

pub returns-clause-clean : goal.returns-clause-clean
returns-clause-clean c = let v = c.open_pass.new.self.view in clean-told v.seen v.retired c.open_pass.ensures.clean
