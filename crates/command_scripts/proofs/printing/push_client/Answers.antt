use Rattle.command_scripts.specs.PrintLaws.{client_printed}
use Rattle.command_scripts.proofs.Answered.{if_ok}
use Rattle.command_scripts.proofs.printing.push_client.Goals as goal

pub returns : goal.returns
returns c =
    if_ok c.extend_from_slice-2.result _ _ _ _
    (λ h. client_printed c.args.commands.now c.args.out.now.items c.extend_from_slice.new.self.items c.push_asks.new.out.items c.push_asks-2.new.out.items c.push_asks-3.new.out.items c.extend_from_slice-2.new.self.items
    c.in_ok-extend_from_slice.ensures.items c.in_ok-push_asks.ensures c.in_ok-push_asks-2.ensures c.in_ok-push_asks-3.ensures h)
    c.extend_from_slice-2.ensures.items
