use Rattle.std.proofs.Common.{◌≡◌, ◌⊎◌, length, Result, Err, inl, inr, subst}
use Rattle.std.proofs.lemmas.Option.{IfSome_then}
use Rattle.continued_text.specs.Texts.{Spells, IsContinued, byte_limit}
use Rattle.continued_text.specs.declared.texts.Continued.{Continued}
use Rattle.text_lines.specs.Lines.{IsFirstBad}
use Rattle.journal_commands.specs.declared.status.Status.{Status}
use Rattle.journal_commands.specs.declared.status.Status.TheVariants.{Text, ReadFault, Memory}
use Rattle.journal_commands.specs.StatusLaws.{unread_words, unread_reads, unread_written, unread_writes, unread_refused, err_is}
use Rattle.script_commands.specs.Continuing.{ContinueEnds, ContinueIsWhole, Continues}
use Rattle.script_commands.proofs.Returned.{returned_same}
use Rattle.journal_commands.proofs.Somes.{some_both, some_all}
use Rattle.script_commands.proofs.Went.{text_ends, ends_no_fault, unread_continues}
use Rattle.script_commands.proofs.continues.run_continue.Goals as goal

pub returns-in-Ok-clause-ends : goal.returns-in-Ok-clause-ends
returns-in-Ok-clause-ends g c =
    let read = c.in-Ok.read in
    some_both (g.R.Source.left c.args.source.now) (λ bytes. IsContinued bytes read) (λ bytes. (d : Continued) → IsContinued bytes d → read ≡ d) (λ bytes. ContinueEnds g.B.Callback.counted g.B.Callback.told bytes (g.W.Sink.written c.args.sink.now) (g.W.Sink.written c.go_on.new.sink) c.args.callbacks c.go_on.result.callbacks c.go_on.result.status) (λ bytes spelled only.
    text_ends g.B.Callback.counted g.B.Callback.told read (g.W.Sink.written c.args.sink.now) (g.W.Sink.written c.go_on.new.sink) c.args.callbacks c.go_on.result.callbacks bytes c.go_on.result.status spelled only c.go_on.ensures.ends) c.in-Ok.ensures.found c.in-Ok.ensures.only

pub returns-in-Ok-clause-whole : goal.returns-in-Ok-clause-whole
returns-in-Ok-clause-whole g c = λ calm quiet.
    let read = c.in-Ok.read in
    some_both (g.R.Source.left c.args.source.now) (λ bytes. IsContinued bytes read) (λ bytes. (d : Continued) → IsContinued bytes d → read ≡ d) (λ bytes. ContinueIsWhole (length c.args.callbacks) bytes c.go_on.result.status) (λ bytes spelled only. record {
      text = λ d t. subst (λ (x : Continued). (c.go_on.result.status ≡ Memory) ⊎ Continues (length c.args.callbacks) x c.go_on.result.status) (only d t) (c.go_on.ensures.whole quiet);
      other = λ none. absurd (none read spelled);
    }) c.in-Ok.ensures.found c.in-Ok.ensures.only

pub returns-in-Ok-clause-words : goal.returns-in-Ok-clause-words
returns-in-Ok-clause-words g c = λ _. c.in-Ok.ensures.end

pub returns-in-Ok-clause-read_whole : goal.returns-in-Ok-clause-read_whole
returns-in-Ok-clause-read_whole g c = λ _. c.in-Ok.ensures.end

pub returns-in-Ok-clause-read_out : goal.returns-in-Ok-clause-read_out
returns-in-Ok-clause-read_out g c = λ line e. inl c.in-Ok.ensures.end

pub returns-in-Ok-clause-read_fault : goal.returns-in-Ok-clause-read_fault
returns-in-Ok-clause-read_fault g c = λ e.
    absurd (ends_no_fault g.B.Callback.counted g.B.Callback.told c.in-Ok.read (g.W.Sink.written c.args.sink.now) (g.W.Sink.written c.go_on.new.sink) c.args.callbacks c.go_on.result.callbacks c.go_on.result.status c.go_on.ensures.ends e)

pub returns-in-Err-clause-ends : goal.returns-in-Err-clause-ends
returns-in-Err-clause-ends g c =
    let left = g.R.Source.left c.args.source.now in
    IfSome_then left (some_all left (λ n. ◌≡◌ {A = Result Continued Status} (Err c.in-Err.status) (Err (Text n))) (λ n bytes. IsFirstBad Spells (byte_limit bytes) bytes n) c.in-Err.ensures.line) (λ bytes line.
    unread_continues g.B.Callback.counted g.B.Callback.told bytes _ _ c.args.callbacks c.in-Err.status c.in-Err.ensures.causes (λ n e. line n (err_is c.in-Err.status (Text n) e)))

pub returns-in-Err-clause-words : goal.returns-in-Err-clause-words
returns-in-Err-clause-words g c = λ e. absurd (unread_words c.in-Err.status c.in-Err.ensures.causes e)

pub returns-in-Err-clause-read_whole : goal.returns-in-Err-clause-read_whole
returns-in-Err-clause-read_whole g c = λ h. absurd (unread_reads c.in-Err.status c.in-Err.ensures.causes h)

pub returns-in-Err-clause-read_out : goal.returns-in-Err-clause-read_out
returns-in-Err-clause-read_out g c = λ n e. c.in-Err.ensures.read_out n (err_is c.in-Err.status (Text n) e)

pub returns-in-Err-clause-finished : goal.returns-in-Err-clause-finished
returns-in-Err-clause-finished g c = λ h. absurd (unread_written c.in-Err.status c.in-Err.ensures.causes h)

pub returns-in-Err-clause-read_fault : goal.returns-in-Err-clause-read_fault
returns-in-Err-clause-read_fault g c = λ e. c.in-Err.ensures.fault (err_is c.in-Err.status ReadFault e)

pub returns-in-Err-clause-write_fault : goal.returns-in-Err-clause-write_fault
returns-in-Err-clause-write_fault g c = λ e. absurd (unread_writes c.in-Err.status c.in-Err.ensures.causes e)

pub returns-in-Err-clause-whole : goal.returns-in-Err-clause-whole
returns-in-Err-clause-whole g c = λ calm quiet.
    IfSome_then (g.R.Source.left c.args.source.now) c.in-Err.ensures.only (λ bytes only. record {
      text = λ d t. (elim (only d t) as (λ _. (c.in-Err.status ≡ Memory) ⊎ Continues (length c.args.callbacks) d c.in-Err.status) [
        | inl e ↦ absurd (calm (c.in-Err.ensures.fault (err_is c.in-Err.status ReadFault e)))
        | inr e ↦ inl e
      ]);
      other = λ none. unread_refused c.in-Err.status c.in-Err.ensures.causes (λ e. calm (c.in-Err.ensures.fault (err_is c.in-Err.status ReadFault e)));
    })

pub returns-in-Err-clause-returned : goal.returns-in-Err-clause-returned
returns-in-Err-clause-returned g c = returned_same g.B.Callback.counted g.B.Callback.told c.args.callbacks
