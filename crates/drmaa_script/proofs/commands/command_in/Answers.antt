use Rattle.command_words.specs.Commands.{AsksFor, NamesNone}
use Rattle.drmaa_script.specs.Commands.{CanRun}
use Rattle.drmaa_script.proofs.Asked.{none_asked, found_is, cannot_be}
use Rattle.drmaa_script.proofs.commands.command_in.Goals as goal

pub returns-else-branch-clause-named : goal.returns-else-branch-clause-named
returns-else-branch-clause-named c =
    none_asked c.args.words.now c.in-Some.command
    (found_is c.in_ok-command.field-0 c.in-Some.command (NamesNone c.args.words.now) (AsksFor c.args.words.now) c.in-Some.is c.in_ok-command.ensures.named)
    (cannot_be c.in_ok-can_run.field-0 (CanRun c.in-Some.command) c.if-branch.false (c.in_ok-can_run.ensures {u = tt}))
