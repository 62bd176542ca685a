use Rattle.std.proofs.Common.{ap, ◌∙◌, map}
use Rattle.std.specs.Prelude.{option_map}
use Rattle.drmaa_machine.specs.Chronicles.{history_of}
use Rattle.call_history.proofs.Tellings.{own-told, clean-told, retired-set}
use Rattle.call_history.proofs.machines.SharedMachine.retire.Goals as goal

pub returns-clause-retired : goal.returns-clause-retired
returns-clause-retired c =
    ap (λ v. map (option_map history_of) v.retired) c.retire.ensures.retires.view
    ∙ retired-set c.args.opener.now.view.retired c.args.client.view.number c.args.client.view.mine

pub returns-clause-own : goal.returns-clause-own
returns-clause-own c = let v = c.args.client.view in own-told v.seen v.mine v.number c.retire.ensures.retires.own

pub returns-clause-clean : goal.returns-clause-clean
returns-clause-clean c = let v = c.retire.new.self.view in clean-told v.seen v.retired c.retire.ensures.retires.clean
