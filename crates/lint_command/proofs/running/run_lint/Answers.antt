use Rattle.std.proofs.Common.{◌≡◌, refl, sym, subst, ◌∙◌}
use Rattle.std.proofs.lemmas.Option.{IfSome_then}
use Rattle.journal_commands.specs.declared.status.Status.TheVariants.{Text}
use Rattle.journal_commands.specs.Statuses.{IsQuiet, HasWritten}
use Rattle.journal_commands.specs.StatusLaws.{unread_reads, unread_written, unread_writes}
use Rattle.journal_commands.proofs.Somes.{some_all}
use Rattle.lint_command.specs.Kinds.{IsBadLine}
use Rattle.lint_command.proofs.Ended.{run_ends, run_advised, no_line_written, no_read_fault, written_whole, unread_ends, unread_whole}
use Rattle.lint_command.proofs.running.run_lint.Goals as goal

pub returns-in-Ok-clause-ends : goal.returns-in-Ok-clause-ends
returns-in-Ok-clause-ends g c =
    IfSome_then (g.R.Source.left c.args.source.now) c.in-Ok.ensures.written (λ bytes linted.
    run_ends bytes c.in-Ok.text c.as_bytes.result.now c.plain.result.status c.write_output.result _ _ (c.as_bytes.ensures.value ∙ c.as_str.ensures.value) c.plain.ensures.status linted
    c.write_output.ensures.ends)

pub returns-in-Ok-clause-advice : goal.returns-in-Ok-clause-advice
returns-in-Ok-clause-advice g c =
    run_advised c.as_bytes.result.now c.plain.result.status c.write_output.result _ _ c.plain.result.advice c.plain.ensures.status c.write_output.ensures.ends c.plain.ensures.advice

pub returns-in-Ok-clause-read_whole : goal.returns-in-Ok-clause-read_whole
returns-in-Ok-clause-read_whole g c = λ h. c.in-Ok.ensures.end

pub returns-in-Ok-clause-read_out : goal.returns-in-Ok-clause-read_out
returns-in-Ok-clause-read_out g c = λ n e.
    no_line_written c.as_bytes.result.now c.plain.result.status c.write_output.result _ _ n _ c.plain.ensures.status c.write_output.ensures.ends e

pub returns-in-Ok-clause-finished : goal.returns-in-Ok-clause-finished
returns-in-Ok-clause-finished g c = λ h. c.write_output.ensures.finished (subst HasWritten c.plain.ensures.status h)

pub returns-in-Ok-clause-read_fault : goal.returns-in-Ok-clause-read_fault
returns-in-Ok-clause-read_fault g c = λ e.
    no_read_fault c.as_bytes.result.now c.plain.result.status c.write_output.result _ _ _ c.plain.ensures.status c.write_output.ensures.ends e

pub returns-in-Ok-clause-write_fault : goal.returns-in-Ok-clause-write_fault
returns-in-Ok-clause-write_fault g c = λ e. c.write_output.ensures.fault (sym c.plain.ensures.status ∙ e)

pub returns-in-Ok-clause-untouched : goal.returns-in-Ok-clause-untouched
returns-in-Ok-clause-untouched g c = λ q. c.write_output.ensures.untouched (subst IsQuiet c.plain.ensures.status q)

pub returns-in-Ok-clause-whole : goal.returns-in-Ok-clause-whole
returns-in-Ok-clause-whole g c = λ reads writes.
    IfSome_then (g.R.Source.left c.args.source.now) c.in-Ok.ensures.written (λ bytes linted.
    written_whole bytes c.in-Ok.text c.plain.result.status linted (c.plain.ensures.status ∙ c.write_output.ensures.whole writes))

pub returns-in-Err-clause-ends : goal.returns-in-Err-clause-ends
returns-in-Err-clause-ends g c =
    let left = g.R.Source.left c.args.source.now in
    IfSome_then left (some_all left (λ n. c.in-Err.outcome.status ≡ Text n) (λ n bytes. IsBadLine bytes n) c.in-Err.ensures.line) (λ bytes line.
    unread_ends bytes c.in-Err.outcome.status _ _ c.in-Err.ensures.causes line)

pub returns-in-Err-clause-advice : goal.returns-in-Err-clause-advice
returns-in-Err-clause-advice g c = c.in-Err.ensures.advice

pub returns-in-Err-clause-read_whole : goal.returns-in-Err-clause-read_whole
returns-in-Err-clause-read_whole g c = λ h. absurd (unread_reads c.in-Err.outcome.status c.in-Err.ensures.causes h)

pub returns-in-Err-clause-read_out : goal.returns-in-Err-clause-read_out
returns-in-Err-clause-read_out g c = c.in-Err.ensures.read_out

pub returns-in-Err-clause-finished : goal.returns-in-Err-clause-finished
returns-in-Err-clause-finished g c = λ h. absurd (unread_written c.in-Err.outcome.status c.in-Err.ensures.causes h)

pub returns-in-Err-clause-read_fault : goal.returns-in-Err-clause-read_fault
returns-in-Err-clause-read_fault g c = c.in-Err.ensures.fault

pub returns-in-Err-clause-write_fault : goal.returns-in-Err-clause-write_fault
returns-in-Err-clause-write_fault g c = λ e. absurd (unread_writes c.in-Err.outcome.status c.in-Err.ensures.causes e)

pub returns-in-Err-clause-untouched : goal.returns-in-Err-clause-untouched
returns-in-Err-clause-untouched g c = λ q. refl

pub returns-in-Err-clause-whole : goal.returns-in-Err-clause-whole
returns-in-Err-clause-whole g c = λ reads writes.
    IfSome_then (g.R.Source.left c.args.source.now) c.in-Err.ensures.only (λ bytes only.
    unread_whole bytes c.in-Err.outcome.status c.in-Err.ensures.causes (λ e. reads (c.in-Err.ensures.fault e)) only)
