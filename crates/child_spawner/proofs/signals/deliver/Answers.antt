use Rattle.std.proofs.Common.{◌∙◌, refl}
use Rattle.std.specs.Process.{command_args, command_program}
use Rattle.child_spawner.proofs.Looks.{run_failed}
use Rattle.child_spawner.proofs.signals.deliver.Goals as goal

pub returns-clause-withheld : goal.returns-clause-withheld
returns-clause-withheld g c = λ failed.
    run_failed c.args.kind c.args.number c.args.file.now c.as_str.result.now
    (command_program c.in-Ok-kill_command.command) (command_args c.in-Ok-kill_command.command) c.run.result
    (g.H.Host.told c.args.host.now) (g.H.Host.told c.finds_line.new.host) (g.H.Host.told c.run.new.self)
    failed (c.as_str.ensures.value ∙ c.in-Ok.ensures) c.in-Ok-kill_command.ensures.program c.in-Ok-kill_command.ensures.args
    (c.if-not-finds_line.ensures.found refl) c.run.ensures
