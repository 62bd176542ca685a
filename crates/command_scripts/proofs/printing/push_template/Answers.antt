use Rattle.text_codec.specs.Quotes.{text}
use Rattle.command_scripts.specs.PrintLaws.{template_printed}
use Rattle.command_scripts.proofs.Answered.{on_ok}
use Rattle.command_scripts.proofs.printing.push_template.Goals as goal

pub returns : goal.returns
unfolding text
returns c =
    on_ok _ _ c.push_between-3.result
    (λ h. template_printed c.args.number c.args.command.now c.args.out.now.items c.push_between.new.out.items c.push.new.out.items c.push_between-2.new.out.items c.push_between-3.new.out.items
    c.in_ok-push_between.ensures c.in_ok-push.ensures.text c.in_ok-push_between-2.ensures h)
    c.push_between-3.ensures
