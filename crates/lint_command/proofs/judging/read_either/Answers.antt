use Rattle.lint_command.proofs.Judged.{serial_only, line_is}
use Rattle.lint_command.proofs.judging.read_either.Goals as goal

pub returns-in-Ok-clause-only : goal.returns-in-Ok-clause-only
returns-in-Ok-clause-only c = λ all s f judged. serial_only all c.in-Ok.script s (c.in-Ok.ensures.found all f) judged (c.in-Ok.ensures.only all s f)

pub returns-in-Err-Line-clause-only : goal.returns-in-Err-Line-clause-only
returns-in-Err-Line-clause-only c = λ all s f judged.
    c.read_threads.ensures.only all s f
    (c.in-Err-Line.ensures.line all c.in-Err-Line.serial f (line_is c.in-Err-Line.field-0 c.in-Err-Line.serial c.in-Err-Line.field-0-is)) judged

pub returns-in-Err-Line-clause-found : goal.returns-in-Err-Line-clause-found
returns-in-Err-Line-clause-found c = λ all f.
    c.read_threads.ensures.found all f (c.in-Err-Line.ensures.line all c.in-Err-Line.serial f (line_is c.in-Err-Line.field-0 c.in-Err-Line.serial c.in-Err-Line.field-0-is))

pub returns-in-Err-Line-clause-lines : goal.returns-in-Err-Line-clause-lines
returns-in-Err-Line-clause-lines c = λ all m n f e.
    c.read_threads.ensures.lines all m n f
    (c.in-Err-Line.ensures.line all c.in-Err-Line.serial f (line_is c.in-Err-Line.field-0 c.in-Err-Line.serial c.in-Err-Line.field-0-is)) e
