use Rattle.std.proofs.Common.{◌≡◌, ◌⊎◌, Result, Err, inl, inr, subst}
use Rattle.std.proofs.lemmas.Option.{IfSome_then}
use Rattle.journal_text.specs.Journals as journals
use Rattle.journal_text.specs.declared.journals.Journal.{Journal}
use Rattle.text_lines.specs.Lines.{IsFirstBad}
use Rattle.journal_commands.specs.declared.status.Status.{Status}
use Rattle.journal_commands.specs.declared.status.Status.TheVariants.{Text, ReadFault, Memory}
use Rattle.journal_commands.specs.Outcomes.{JournalIsWhole}
use Rattle.journal_commands.specs.StatusLaws.{unread_words, unread_reads, unread_written, unread_writes, unread_refused, err_is}
use Rattle.journal_commands.specs.Texts.{IsJournalText}
use Rattle.journal_commands.specs.Commands.{OfLegal, RefusesFault, Judged, ledger_of}
use Rattle.journal_commands.specs.Statuses.{IsUnread}
use Rattle.view_commands.specs.Views.{Shows}
use Rattle.view_commands.proofs.Judged.{verdict_told}
use Rattle.journal_commands.proofs.Ends.{made_ends, made_no_fault, decided, unread_journal}
use Rattle.journal_commands.proofs.Somes.{some_both, some_all}
use Rattle.view_commands.proofs.running.run_view.Goals as goal

pub returns-in-Ok-clause-ends : goal.returns-in-Ok-clause-ends
returns-in-Ok-clause-ends g c =
    IfSome_then (g.R.Source.left c.args.source.now) c.in-Ok.ensures.found (λ bytes spelled.
    made_ends (OfLegal (Shows c.args.view)) RefusesFault bytes c.in-Ok.journal spelled _ _ c.judge-made.result.made c.write_made.result c.judge-made.ensures.makes c.write_made.ensures.ends)

pub returns-in-Ok-clause-words : goal.returns-in-Ok-clause-words
returns-in-Ok-clause-words g c = (made_no_fault c.judge-made.result.made c.write_made.result _ _ c.write_made.ensures.ends).1

pub returns-in-Ok-clause-read_whole : goal.returns-in-Ok-clause-read_whole
returns-in-Ok-clause-read_whole g c = λ _. c.in-Ok.ensures.end

pub returns-in-Ok-clause-read_out : goal.returns-in-Ok-clause-read_out
returns-in-Ok-clause-read_out g c = λ line e. inl c.in-Ok.ensures.end

pub returns-in-Ok-clause-read_fault : goal.returns-in-Ok-clause-read_fault
returns-in-Ok-clause-read_fault g c = λ e. absurd ((made_no_fault c.judge-made.result.made c.write_made.result _ _ c.write_made.ensures.ends).0 e)

pub returns-in-Ok-clause-whole : goal.returns-in-Ok-clause-whole
returns-in-Ok-clause-whole g c = λ calm quiet.
    some_both (g.R.Source.left c.args.source.now) (λ bytes. IsJournalText bytes c.in-Ok.journal) (λ bytes. (j : Journal) → IsJournalText bytes j → c.in-Ok.journal ≡ j)
    (λ bytes. JournalIsWhole (Judged (Shows c.args.view)) bytes c.write_made.result) (λ bytes spelled only. record {
      journal = λ j t. subst (λ (x : Journal). (c.write_made.result ≡ Memory) ⊎ Judged (Shows c.args.view) x c.write_made.result) (only j t)
          (decided (Judged (Shows c.args.view) c.in-Ok.journal) c.judge-made.result.made c.write_made.result (c.write_made.ensures.whole quiet) c.judge-made.ensures.decides);
      other = λ none. absurd (none c.in-Ok.journal spelled);
    }) c.in-Ok.ensures.found c.in-Ok.ensures.only

pub returns-in-Err-clause-ends : goal.returns-in-Err-clause-ends
returns-in-Err-clause-ends g c =
    let left = g.R.Source.left c.args.source.now in
    IfSome_then left (some_all left (λ n. ◌≡◌ {A = Result Journal Status} (Err c.in-Err.status) (Err (Text n))) (λ n bytes. IsFirstBad journals.Spells 268_435_456 bytes n) c.in-Err.ensures.line) (λ bytes line.
    unread_journal (OfLegal (Shows c.args.view)) RefusesFault bytes c.in-Err.status _ _ c.in-Err.ensures.causes (λ n e. line n (err_is c.in-Err.status (Text n) e)))

pub returns-in-Err-clause-words : goal.returns-in-Err-clause-words
returns-in-Err-clause-words g c = λ e. unread_words c.in-Err.status c.in-Err.ensures.causes e

pub returns-in-Err-clause-read_whole : goal.returns-in-Err-clause-read_whole
returns-in-Err-clause-read_whole g c = λ h. absurd (unread_reads c.in-Err.status c.in-Err.ensures.causes h)

pub returns-in-Err-clause-read_out : goal.returns-in-Err-clause-read_out
returns-in-Err-clause-read_out g c = λ n e. c.in-Err.ensures.read_out n (err_is c.in-Err.status (Text n) e)

pub returns-in-Err-clause-finished : goal.returns-in-Err-clause-finished
returns-in-Err-clause-finished g c = λ h. absurd (unread_written c.in-Err.status c.in-Err.ensures.causes h)

pub returns-in-Err-clause-read_fault : goal.returns-in-Err-clause-read_fault
returns-in-Err-clause-read_fault g c = λ e. c.in-Err.ensures.fault (err_is c.in-Err.status ReadFault e)

pub returns-in-Err-clause-write_fault : goal.returns-in-Err-clause-write_fault
returns-in-Err-clause-write_fault g c = λ e. absurd (unread_writes c.in-Err.status c.in-Err.ensures.causes e)

pub returns-in-Err-clause-whole : goal.returns-in-Err-clause-whole
returns-in-Err-clause-whole g c = λ calm quiet.
    IfSome_then (g.R.Source.left c.args.source.now) c.in-Err.ensures.only (λ bytes only. record {
      journal = λ j t. (elim (only j t) as (λ _. (c.in-Err.status ≡ Memory) ⊎ Judged (Shows c.args.view) j c.in-Err.status) [
        | inl e ↦ absurd (calm (c.in-Err.ensures.fault (err_is c.in-Err.status ReadFault e)))
        | inr e ↦ inl e
      ]);
      other = λ none. unread_refused c.in-Err.status c.in-Err.ensures.causes (λ e. calm (c.in-Err.ensures.fault (err_is c.in-Err.status ReadFault e)));
    })

pub returns-in-Ok-clause-judged : goal.returns-in-Ok-clause-judged
returns-in-Ok-clause-judged g c = λ is.
    IfSome_then (g.R.Source.left c.args.source.now) c.in-Ok.ensures.found (λ bytes spelled.
    (c.in-Ok.journal, spelled, verdict_told c.args.view (ledger_of c.in-Ok.journal) c.judge-made.result.made c.write_made.result c.judge-made.result.verdict _ _ c.write_made.ensures.ends is c.judge-made.ensures.verdict))

pub returns-in-Err-clause-judged : goal.returns-in-Err-clause-judged
returns-in-Err-clause-judged g c = λ is. absurd (subst IsUnread is c.in-Err.ensures.causes)
