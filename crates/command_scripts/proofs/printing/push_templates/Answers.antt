use Rattle.command_scripts.specs.PrintLaws.{templates_more}
use Rattle.command_scripts.proofs.printing.push_templates.Goals as goal

pub loop-i-preserved : goal.loop-i-preserved
loop-i-preserved c =
    templates_more c.loop-i.i c.args.commands.now c.index-commands-i.result c.loop-i.out.items c.push_template.new.out.items _ c.loop-i-test.true c.index-commands-i.is
    c.in_ok-push_template.ensures c.loop-i.invariant
