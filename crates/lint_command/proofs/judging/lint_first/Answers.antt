use Rattle.lint_command.proofs.Judged.{told, untold, lines_are}
use Rattle.lint_command.proofs.judging.lint_first.Goals as goal

pub returns-in-Ok-lint-clause-only : goal.returns-in-Ok-lint-clause-only
returns-in-Ok-lint-clause-only c = λ all s f judged. told c.in-Ok.script s c.in-Ok-lint.text c.in-Ok-lint.ensures (c.in-Ok.ensures.only all s f judged)

pub returns-in-Err-Lines-clause-only : goal.returns-in-Err-Lines-clause-only
returns-in-Err-Lines-clause-only c = λ all s f judged.
    untold c.in-Err-Lines.serial c.in-Err-Lines.threads c.in-Err-Lines.field-0 s _ c.in-Err-Lines.field-0-is (c.in-Err-Lines.ensures.only all s f judged)

pub returns-in-Err-Lines-clause-line : goal.returns-in-Err-Lines-clause-line
returns-in-Err-Lines-clause-line c = λ all f.
    let bad = c.in-Err-Lines.ensures.lines all c.in-Err-Lines.serial c.in-Err-Lines.threads f
    (lines_are c.in-Err-Lines.field-0 c.in-Err-Lines.serial c.in-Err-Lines.threads c.in-Err-Lines.field-0-is) in
    record { serial = c.in-Err-Lines.serial; threads = c.in-Err-Lines.threads; bad_serial = bad.0; bad_threads = bad.1; later = c.later.ensures }
