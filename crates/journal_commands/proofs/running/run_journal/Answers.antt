use Rattle.std.proofs.Common.{◌≡◌, ◌⊎◌, Result, Err, inl, inr, subst}
use Rattle.std.proofs.lemmas.Option.{IfSome_then}
use Rattle.journal_text.specs.Journals as journals
use Rattle.journal_text.specs.declared.journals.Journal.{Journal}
use Rattle.text_lines.specs.Lines.{IsFirstBad}
use Rattle.journal_commands.specs.declared.status.Status.{Status}
use Rattle.journal_commands.specs.declared.status.Status.TheVariants.{Text, ReadFault, Memory}
use Rattle.journal_commands.specs.Outcomes.{JournalIsWhole}
use Rattle.journal_commands.specs.StatusLaws.{unread_words, unread_reads, unread_written, unread_writes, unread_refused, err_is}
use Rattle.journal_commands.specs.Texts.{IsJournalText}
use Rattle.journal_commands.proofs.Ends.{made_ends, made_came, made_no_fault, decided, unread_journal, unread_came}
use Rattle.journal_commands.proofs.Somes.{some_both, some_all}
use Rattle.journal_commands.proofs.running.run_journal.Goals as goal

pub returns-in-Ok-clause-ends : goal.returns-in-Ok-clause-ends
returns-in-Ok-clause-ends g c =
    IfSome_then (g.R.Source.left c.args.source.now) c.in-Ok.ensures.found (λ bytes spelled.
    made_ends (g.C.JournalCommand.Writes c.args.command) (g.C.JournalCommand.Refuses c.args.command) bytes c.in-Ok.journal spelled _ _ c.make.result c.write_made.result c.make.ensures.makes c.write_made.ensures.ends)

pub returns-in-Ok-clause-came : goal.returns-in-Ok-clause-came
returns-in-Ok-clause-came g c =
    made_came (g.C.JournalCommand.Writes c.args.command) (g.C.JournalCommand.Refuses c.args.command) c.in-Ok.journal _ _ c.make.result c.write_made.result c.make.ensures.makes c.write_made.ensures.ends

pub returns-in-Ok-clause-words : goal.returns-in-Ok-clause-words
returns-in-Ok-clause-words g c = (made_no_fault c.make.result c.write_made.result _ _ c.write_made.ensures.ends).1

pub returns-in-Ok-clause-read_whole : goal.returns-in-Ok-clause-read_whole
returns-in-Ok-clause-read_whole g c = λ _. c.in-Ok.ensures.end

pub returns-in-Ok-clause-read_out : goal.returns-in-Ok-clause-read_out
returns-in-Ok-clause-read_out g c = λ line e. inl c.in-Ok.ensures.end

pub returns-in-Ok-clause-read_fault : goal.returns-in-Ok-clause-read_fault
returns-in-Ok-clause-read_fault g c = λ e. absurd ((made_no_fault c.make.result c.write_made.result _ _ c.write_made.ensures.ends).0 e)

pub returns-in-Ok-clause-whole : goal.returns-in-Ok-clause-whole
returns-in-Ok-clause-whole g c = λ calm quiet.
    some_both (g.R.Source.left c.args.source.now) (λ bytes. IsJournalText bytes c.in-Ok.journal) (λ bytes. (j : Journal) → IsJournalText bytes j → c.in-Ok.journal ≡ j)
    (λ bytes. JournalIsWhole (g.C.JournalCommand.Decides c.args.command) bytes c.write_made.result) (λ bytes spelled only. record {
      journal = λ j t. subst (λ (x : Journal). (c.write_made.result ≡ Memory) ⊎ g.C.JournalCommand.Decides c.args.command x c.write_made.result) (only j t)
          (decided (g.C.JournalCommand.Decides c.args.command c.in-Ok.journal) c.make.result c.write_made.result (c.write_made.ensures.whole quiet) c.make.ensures.decides);
      other = λ none. absurd (none c.in-Ok.journal spelled);
    }) c.in-Ok.ensures.found c.in-Ok.ensures.only

pub returns-in-Err-clause-ends : goal.returns-in-Err-clause-ends
returns-in-Err-clause-ends g c =
    let left = g.R.Source.left c.args.source.now in
    IfSome_then left (some_all left (λ n. ◌≡◌ {A = Result Journal Status} (Err c.in-Err.status) (Err (Text n))) (λ n bytes. IsFirstBad journals.Spells 268_435_456 bytes n) c.in-Err.ensures.line) (λ bytes line.
    unread_journal (g.C.JournalCommand.Writes c.args.command) (g.C.JournalCommand.Refuses c.args.command) bytes c.in-Err.status _ _ c.in-Err.ensures.causes (λ n e. line n (err_is c.in-Err.status (Text n) e)))

pub returns-in-Err-clause-came : goal.returns-in-Err-clause-came
returns-in-Err-clause-came g c = unread_came (g.C.JournalCommand.Writes c.args.command) (g.C.JournalCommand.Refuses c.args.command) c.in-Err.status c.in-Err.ensures.causes

pub returns-in-Err-clause-words : goal.returns-in-Err-clause-words
returns-in-Err-clause-words g c = λ e. unread_words c.in-Err.status c.in-Err.ensures.causes e

pub returns-in-Err-clause-read_whole : goal.returns-in-Err-clause-read_whole
returns-in-Err-clause-read_whole g c = λ h. absurd (unread_reads c.in-Err.status c.in-Err.ensures.causes h)

pub returns-in-Err-clause-read_out : goal.returns-in-Err-clause-read_out
returns-in-Err-clause-read_out g c = λ n e. c.in-Err.ensures.read_out n (err_is c.in-Err.status (Text n) e)

pub returns-in-Err-clause-finished : goal.returns-in-Err-clause-finished
returns-in-Err-clause-finished g c = λ h. absurd (unread_written c.in-Err.status c.in-Err.ensures.causes h)

pub returns-in-Err-clause-read_fault : goal.returns-in-Err-clause-read_fault
returns-in-Err-clause-read_fault g c = λ e. c.in-Err.ensures.fault (err_is c.in-Err.status ReadFault e)

pub returns-in-Err-clause-write_fault : goal.returns-in-Err-clause-write_fault
returns-in-Err-clause-write_fault g c = λ e. absurd (unread_writes c.in-Err.status c.in-Err.ensures.causes e)

pub returns-in-Err-clause-whole : goal.returns-in-Err-clause-whole
returns-in-Err-clause-whole g c = λ calm quiet.
    IfSome_then (g.R.Source.left c.args.source.now) c.in-Err.ensures.only (λ bytes only. record {
      journal = λ j t. (elim (only j t) as (λ _. (c.in-Err.status ≡ Memory) ⊎ g.C.JournalCommand.Decides c.args.command j c.in-Err.status) [
        | inl e ↦ absurd (calm (c.in-Err.ensures.fault (err_is c.in-Err.status ReadFault e)))
        | inr e ↦ inl e
      ]);
      other = λ none. unread_refused c.in-Err.status c.in-Err.ensures.causes (λ e. calm (c.in-Err.ensures.fault (err_is c.in-Err.status ReadFault e)));
    })
