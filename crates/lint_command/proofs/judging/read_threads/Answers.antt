use Rattle.lint_command.proofs.Judged.{threads_found, threads_only, threads_refused, both_bad, line_is}
use Rattle.lint_command.proofs.judging.read_threads.Goals as goal

pub returns-in-Ok-clause-found : goal.returns-in-Ok-clause-found
returns-in-Ok-clause-found c = λ all f bad. threads_found all c.args.serial c.in-Ok.script bad (c.in-Ok.ensures.found all f)

pub returns-in-Ok-clause-only : goal.returns-in-Ok-clause-only
returns-in-Ok-clause-only c = λ all s f bad judged. threads_only all c.args.serial c.in-Ok.script s bad judged (c.in-Ok.ensures.only all s f)

pub returns-in-Err-Line-clause-only : goal.returns-in-Err-Line-clause-only
returns-in-Err-Line-clause-only c = λ all s f bad judged.
    threads_refused all c.args.serial c.in-Err-Line.threads c.in-Err-Line.field-0 s _ c.in-Err-Line.field-0-is bad judged (c.in-Err-Line.ensures.only all s f)

pub returns-in-Err-Line-clause-lines : goal.returns-in-Err-Line-clause-lines
returns-in-Err-Line-clause-lines c = λ all m n f bad e.
    both_bad all c.args.serial c.in-Err-Line.threads m n bad
    (c.in-Err-Line.ensures.line all c.in-Err-Line.threads f (line_is c.in-Err-Line.field-0 c.in-Err-Line.threads c.in-Err-Line.field-0-is)) e
