use Rattle.std.proofs.Common.{◌≡◌, length, Result, Err, ◌⊎◌, inl, inr, refl, subst}
use Rattle.std.proofs.lemmas.Option.{IfSome_then}
use Rattle.script_asks.specs.Plays.{serial_play}
use Rattle.script_play.specs.Callbacks.{HearHistory, HearFront}
use Rattle.script_text.specs.declared.scripts.Mode.TheVariants as mode
use Rattle.script_text.specs.declared.scripts.Script.{Script}
use Rattle.text_lines.specs.Lines.{IsFirstBad}
use Rattle.journal_commands.specs.declared.status.Status.{Status}
use Rattle.journal_commands.specs.declared.status.Status.TheVariants.{Text, ReadFault, Memory}
use Rattle.script_commands.specs.Outcomes.{SpellsScript, IsScriptText, IsWritten, PlayIsWhole, own_of}
use Rattle.script_commands.specs.Plays.{new_machine}
use Rattle.script_commands.specs.Registers.{end_of}
use Rattle.script_commands.proofs.Returned.{returned_same, same_front}
use Rattle.journal_commands.specs.StatusLaws.{unread_words, unread_reads, unread_written, unread_writes, unread_refused, err_is}
use Rattle.script_commands.proofs.Played.{played_ends, read_no_fault, unread_ends, unread_play, unread_played, unread_possible}
use Rattle.journal_commands.proofs.Somes.{some_both, some_all}
use Rattle.script_commands.proofs.plays.run_play.Goals as goal

pub returns-in-Ok-clause-whole : goal.returns-in-Ok-clause-whole
returns-in-Ok-clause-whole g c = λ calm quiet.
    some_both (g.R.Source.left c.args.source.now) (λ bytes. IsScriptText mode.Serial bytes c.in-Ok.script) (λ bytes. (s : Script) → IsScriptText mode.Serial bytes s → c.in-Ok.script ≡ s) (λ bytes. PlayIsWhole (length c.args.callbacks) bytes c.play_new.result.status) (λ bytes spelled only. record {
      script = λ s t. subst (λ (x : Script). (c.play_new.result.status ≡ end_of (length c.args.callbacks) x) ⊎ (c.play_new.result.status ≡ Memory)) (only s t) (c.play_new.ensures.whole quiet);
      other = λ none. absurd (none c.in-Ok.script spelled);
    }) c.in-Ok.ensures.found c.in-Ok.ensures.only

pub returns-in-Ok-clause-writable : goal.returns-in-Ok-clause-writable
returns-in-Ok-clause-writable g c = λ w.
    IfSome_then (g.R.Source.left c.args.source.now) c.in-Ok.ensures.only (λ bytes only s t. subst IsWritten (only s t) (c.play_new.ensures.writable w))

pub returns-in-Err-clause-ends : goal.returns-in-Err-clause-ends
returns-in-Err-clause-ends g c =
    let left = g.R.Source.left c.args.source.now in
    IfSome_then left (some_all left (λ n. ◌≡◌ {A = Result Script Status} (Err c.in-Err.status) (Err (Text n))) (λ n bytes. IsFirstBad (SpellsScript mode.Serial) 16_777_216 bytes n) c.in-Err.ensures.line) (λ bytes line.
    unread_ends (own_of c.args.output) (length c.args.callbacks) bytes c.in-Err.status _ _ c.in-Err.ensures.causes (λ n e. line n (err_is c.in-Err.status (Text n) e)))

pub returns-in-Err-clause-whole : goal.returns-in-Err-clause-whole
returns-in-Err-clause-whole g c = λ calm quiet.
    IfSome_then (g.R.Source.left c.args.source.now) c.in-Err.ensures.only (λ bytes only. record {
      script = λ s t. (elim (only s t) as (λ _. (c.in-Err.status ≡ end_of (length c.args.callbacks) s) ⊎ (c.in-Err.status ≡ Memory)) [
        | inl e ↦ absurd (calm (c.in-Err.ensures.fault (err_is c.in-Err.status ReadFault e)))
        | inr e ↦ inr e
      ]);
      other = λ none. unread_refused c.in-Err.status c.in-Err.ensures.causes (λ e. calm (c.in-Err.ensures.fault (err_is c.in-Err.status ReadFault e)));
    })

pub returns-in-Ok-clause-heard : goal.returns-in-Ok-clause-heard
returns-in-Ok-clause-heard g c = λ played.
    IfSome_then (g.R.Source.left c.args.source.now) c.in-Ok.ensures.only (λ bytes only s t.
    subst (λ (x : Script). HearHistory g.B.Callback.counted g.B.Callback.told x.config (serial_play x).entries c.args.callbacks c.play_new.result.callbacks) (only s t) (c.play_new.ensures.heard played))

pub returns-in-Err-clause-heard : goal.returns-in-Err-clause-heard
returns-in-Err-clause-heard g c = λ played. absurd (unread_played c.in-Err.status c.in-Err.ensures.causes played)

pub returns-in-Ok-clause-heard_front : goal.returns-in-Ok-clause-heard_front
returns-in-Ok-clause-heard_front g c = λ want.
    IfSome_then (g.R.Source.left c.args.source.now) c.in-Ok.ensures.only (λ bytes only s t.
    subst (λ (x : Script). HearFront g.B.Callback.counted g.B.Callback.told x.config (serial_play x).entries c.args.callbacks c.play_new.result.callbacks) (only s t) (c.play_new.ensures.heard_front want))

pub returns-in-Err-clause-heard_front : goal.returns-in-Err-clause-heard_front
returns-in-Err-clause-heard_front g c = λ want.
    IfSome_then (g.R.Source.left c.args.source.now) c.in-Err.ensures.only (λ bytes only s t.
    same_front g.B.Callback.counted g.B.Callback.told s.config (serial_play s).entries c.args.callbacks c.args.callbacks refl)

pub returns-in-Err-clause-returned : goal.returns-in-Err-clause-returned
returns-in-Err-clause-returned g c = returned_same g.B.Callback.counted g.B.Callback.told c.args.callbacks

pub returns-in-Ok-clause-ends : goal.returns-in-Ok-clause-ends
returns-in-Ok-clause-ends g c =
    IfSome_then (g.R.Source.left c.args.source.now) c.in-Ok.ensures.found (λ bytes spelled.
    played_ends (own_of c.args.output) (length c.args.callbacks) bytes c.in-Ok.script c.play_new.result.status _ _ spelled c.play_new.ensures.ends)

pub returns-in-Ok-clause-words : goal.returns-in-Ok-clause-words
returns-in-Ok-clause-words g c = λ _. c.in-Ok.ensures.end

pub returns-in-Ok-clause-read_whole : goal.returns-in-Ok-clause-read_whole
returns-in-Ok-clause-read_whole g c = λ _. c.in-Ok.ensures.end

pub returns-in-Ok-clause-read_out : goal.returns-in-Ok-clause-read_out
returns-in-Ok-clause-read_out g c = λ line e. inl c.in-Ok.ensures.end

pub returns-in-Ok-clause-read_fault : goal.returns-in-Ok-clause-read_fault
returns-in-Ok-clause-read_fault g c = λ e. absurd (read_no_fault (own_of c.args.output c.in-Ok.script) (length c.args.callbacks) (new_machine c.in-Ok.script) c.in-Ok.script c.play_new.result.status _ _ c.play_new.ensures.ends e)

pub returns-in-Err-clause-words : goal.returns-in-Err-clause-words
returns-in-Err-clause-words g c = λ e. absurd (unread_words c.in-Err.status c.in-Err.ensures.causes e)

pub returns-in-Err-clause-read_whole : goal.returns-in-Err-clause-read_whole
returns-in-Err-clause-read_whole g c = λ h. absurd (unread_reads c.in-Err.status c.in-Err.ensures.causes h)

pub returns-in-Err-clause-read_out : goal.returns-in-Err-clause-read_out
returns-in-Err-clause-read_out g c = λ n e. c.in-Err.ensures.read_out n (err_is c.in-Err.status (Text n) e)

pub returns-in-Err-clause-finished : goal.returns-in-Err-clause-finished
returns-in-Err-clause-finished g c = λ h. absurd (unread_written c.in-Err.status c.in-Err.ensures.causes h)

pub returns-in-Err-clause-read_fault : goal.returns-in-Err-clause-read_fault
returns-in-Err-clause-read_fault g c = λ e. c.in-Err.ensures.fault (err_is c.in-Err.status ReadFault e)

pub returns-in-Err-clause-write_fault : goal.returns-in-Err-clause-write_fault
returns-in-Err-clause-write_fault g c = λ e. absurd (unread_writes c.in-Err.status c.in-Err.ensures.causes e)

pub returns-in-Err-clause-writable : goal.returns-in-Err-clause-writable
returns-in-Err-clause-writable g c = λ w. absurd (unread_play c.args.output c.in-Err.status c.in-Err.ensures.causes w)

pub returns-in-Err-clause-possible : goal.returns-in-Err-clause-possible
returns-in-Err-clause-possible g c = unread_possible c.in-Err.status c.in-Err.ensures.causes
