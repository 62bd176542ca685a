use Rattle.std.proofs.Common.{◌++◌, ap, ◌∙◌}
use Rattle.text_lines.specs.Lines.{ended}
use Rattle.command_scripts.specs.PrintLaws.{script_printed}
use Rattle.command_scripts.specs.Texts.{all_templates, client_lines}
use Rattle.command_scripts.proofs.printing.print_script.Goals as goal

pub returns : goal.returns
returns c =
    let templates = c.in_ok-push_templates.ensures ∙ ap (λ cs. c.push_machine.new.out.items ++ ended (all_templates 1 cs)) c.as_slice.ensures in
    let client = c.from_vec.ensures ∙ c.in_ok-push_client.ensures ∙ ap (λ cs. c.push_templates.new.out.items ++ ended (client_lines cs)) c.as_slice-2.ensures in
    script_printed c.args.batch.now c.new-out.result.items c.push_machine.new.out.items c.push_templates.new.out.items c.from_vec.result
    c.new-out.ensures.items c.in_ok-push_machine.ensures templates client
