use Rattle.std.proofs.Common.{◌≡◌, ◌∙◌}
use Rattle.command_scripts.specs.Texts.{script_text}
use Rattle.command_scripts.specs.Written.{IsWritten}
use Rattle.command_scripts.specs.WrittenLaws.{is_written}
use Rattle.command_scripts.proofs.Answered.{of_ok, same_fault}
use Rattle.command_scripts.proofs.writing.write_script.Goals as goal

pub returns-in-Ok-clause-written : goal.returns-in-Ok-clause-written
returns-in-Ok-clause-written c = λ all f.
    of_ok (λ bytes. bytes ≡ script_text c.in-Ok.batch) (IsWritten c.args.machine all) c.printed.result
    (λ bytes same. is_written c.args.machine all bytes c.in-Ok.batch c.requires c.as_str-utf8.ensures.utf8 (c.in-Ok.ensures.found all f) same)
    c.printed.ensures.text

pub returns-in-Err-clause-line : goal.returns-in-Err-clause-line
returns-in-Err-clause-line c = λ all n f e. c.read_batch.ensures.line all n f (c.in-Err.is ∙ same_fault _ _ e)
