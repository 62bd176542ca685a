use Rattle.std.proofs.Common.{◌≡◌, ◌⊎◌, ◌<◌, ◌≤◌, length, Result, Err, inl, inr, sym, ap, subst}
use Rattle.std.proofs.lemmas.Option.{IfSome_then}
use Rattle.script_text.specs.declared.scripts.Mode.TheVariants as mode
use Rattle.script_text.specs.declared.scripts.Script.{Script}
use Rattle.text_lines.specs.Lines.{IsFirstBad}
use Rattle.journal_commands.specs.declared.status.Status.{Status}
use Rattle.journal_commands.specs.declared.status.Status.TheVariants.{Text, Words, ReadFault, Memory}
use Rattle.script_commands.specs.Outcomes.{SpellsScript, IsScriptText}
use Rattle.drmaa_script.specs.Runs.{RunIsWhole, IsRunEnd}
use Rattle.script_commands.specs.Registers.{registers_of}
use Rattle.script_commands.proofs.Returned.{returned_same}
use Rattle.journal_commands.specs.StatusLaws.{unread_words, unread_reads, unread_written, unread_writes, unread_refused, err_is}
use Rattle.script_commands.proofs.Played.{unread_possible}
use Rattle.drmaa_script.proofs.Ran.{unread_run, ran_ends, ran_no_fault, ran_whose, ran_callers, none_whose, unread_callers}
use Rattle.journal_commands.proofs.Somes.{some_both, some_all}
use Rattle.drmaa_script.proofs.threads.run_threads.Goals as goal

pub returns-in-Ok-clause-ends : goal.returns-in-Ok-clause-ends
returns-in-Ok-clause-ends g c =
    IfSome_then (g.R.Source.left c.args.source.now) c.in-Ok.ensures.found (λ bytes spelled.
    ran_ends g.K.One.Clock.given c.in-Ok.script (g.W.Sink.written c.args.sink.now) (g.W.Sink.written c.run_to.new.sink) (g.S.Spawner.asked c.args.spawner.now) (g.S.Spawner.asked c.run_to.new.spawner) (g.S.Spawner.fate c.run_to.new.spawner)
    c.run_to.result.clocks g.B.Callback.counted g.B.Callback.told bytes c.args.callbacks c.run_to.result.callbacks c.run_to.result.status spelled c.run_to.ensures.ends)

pub returns-in-Ok-clause-whole : goal.returns-in-Ok-clause-whole
returns-in-Ok-clause-whole g c = λ calm quiet.
    some_both (g.R.Source.left c.args.source.now) (λ bytes. IsScriptText mode.Threads bytes c.in-Ok.script) (λ bytes. (s : Script) → IsScriptText mode.Threads bytes s → c.in-Ok.script ≡ s) (λ bytes. RunIsWhole (length c.args.callbacks) bytes c.run_to.result.status) (λ bytes spelled only. record {
      script = λ s t few. c.run_to.ensures.enough (subst (λ (x : Script). registers_of x ≤ length c.args.callbacks) (sym (only s t)) few) quiet;
      few = λ s t lacks. inl (c.run_to.ensures.few (subst (λ (x : Script). length c.args.callbacks < registers_of x) (sym (only s t)) lacks));
      other = λ none. absurd (none c.in-Ok.script spelled);
    }) c.in-Ok.ensures.found c.in-Ok.ensures.only

pub returns-in-Ok-clause-words : goal.returns-in-Ok-clause-words
returns-in-Ok-clause-words g c = λ _. c.in-Ok.ensures.end

pub returns-in-Ok-clause-read_whole : goal.returns-in-Ok-clause-read_whole
returns-in-Ok-clause-read_whole g c = λ _. c.in-Ok.ensures.end

pub returns-in-Ok-clause-read_out : goal.returns-in-Ok-clause-read_out
returns-in-Ok-clause-read_out g c = λ line e. inl c.in-Ok.ensures.end

pub returns-in-Ok-clause-read_fault : goal.returns-in-Ok-clause-read_fault
returns-in-Ok-clause-read_fault g c = λ e.
    absurd (ran_no_fault g.K.One.Clock.given c.in-Ok.script (g.W.Sink.written c.args.sink.now) (g.W.Sink.written c.run_to.new.sink) (g.S.Spawner.asked c.args.spawner.now) (g.S.Spawner.asked c.run_to.new.spawner) (g.S.Spawner.fate c.run_to.new.spawner)
    c.run_to.result.clocks (length c.args.callbacks) _ c.run_to.result.status c.run_to.ensures.ends e)

pub returns-in-Err-clause-ends : goal.returns-in-Err-clause-ends
returns-in-Err-clause-ends g c =
    let left = g.R.Source.left c.args.source.now in
    IfSome_then left (some_all left (λ n. ◌≡◌ {A = Result Script Status} (Err c.in-Err.status) (Err (Text n))) (λ n bytes. IsFirstBad (SpellsScript mode.Threads) 16_777_216 bytes n) c.in-Err.ensures.line) (λ bytes line.
    unread_run g.B.Callback.counted g.B.Callback.told g.K.One.Clock.given bytes (g.W.Sink.written c.args.sink.now) (g.W.Sink.written c.args.sink.now) (g.S.Spawner.asked c.args.spawner.now) (g.S.Spawner.asked c.args.spawner.now)
    (g.S.Spawner.fate c.args.spawner.now) c.new.result c.args.callbacks c.args.callbacks c.in-Err.status c.in-Err.ensures.causes (λ n e. line n (err_is c.in-Err.status (Text n) e)))

pub returns-in-Err-clause-words : goal.returns-in-Err-clause-words
returns-in-Err-clause-words g c = λ e. absurd (unread_words c.in-Err.status c.in-Err.ensures.causes e)

pub returns-in-Err-clause-read_whole : goal.returns-in-Err-clause-read_whole
returns-in-Err-clause-read_whole g c = λ h. absurd (unread_reads c.in-Err.status c.in-Err.ensures.causes h)

pub returns-in-Err-clause-read_out : goal.returns-in-Err-clause-read_out
returns-in-Err-clause-read_out g c = λ n e. c.in-Err.ensures.read_out n (err_is c.in-Err.status (Text n) e)

pub returns-in-Err-clause-finished : goal.returns-in-Err-clause-finished
returns-in-Err-clause-finished g c = λ h. absurd (unread_written c.in-Err.status c.in-Err.ensures.causes h)

pub returns-in-Err-clause-read_fault : goal.returns-in-Err-clause-read_fault
returns-in-Err-clause-read_fault g c = λ e. c.in-Err.ensures.fault (err_is c.in-Err.status ReadFault e)

pub returns-in-Err-clause-write_fault : goal.returns-in-Err-clause-write_fault
returns-in-Err-clause-write_fault g c = λ e. absurd (unread_writes c.in-Err.status c.in-Err.ensures.causes e)

pub returns-in-Err-clause-whole : goal.returns-in-Err-clause-whole
returns-in-Err-clause-whole g c = λ calm quiet.
    IfSome_then (g.R.Source.left c.args.source.now) c.in-Err.ensures.only (λ bytes only. record {
      script = λ s t enough. (elim (only s t) as (λ _. IsRunEnd c.in-Err.status) [
        | inl e ↦ absurd (calm (c.in-Err.ensures.fault (err_is c.in-Err.status ReadFault e)))
        | inr e ↦ subst IsRunEnd (sym e) tt
      ]);
      few = λ s t lacks. (elim (only s t) as (λ _. (c.in-Err.status ≡ Words) ⊎ (c.in-Err.status ≡ Memory)) [
        | inl e ↦ absurd (calm (c.in-Err.ensures.fault (err_is c.in-Err.status ReadFault e)))
        | inr e ↦ inr e
      ]);
      other = λ none. unread_refused c.in-Err.status c.in-Err.ensures.causes (λ e. calm (c.in-Err.ensures.fault (err_is c.in-Err.status ReadFault e)));
    })

pub returns-in-Err-clause-returned : goal.returns-in-Err-clause-returned
returns-in-Err-clause-returned g c = returned_same g.B.Callback.counted g.B.Callback.told c.args.callbacks

pub returns-in-Err-clause-possible : goal.returns-in-Err-clause-possible
returns-in-Err-clause-possible g c = unread_possible c.in-Err.status c.in-Err.ensures.causes

pub returns-in-Ok-clause-whose : goal.returns-in-Ok-clause-whose
returns-in-Ok-clause-whose g c =
    ran_whose g.K.One.Clock.given c.in-Ok.script (g.W.Sink.written c.args.sink.now) (g.W.Sink.written c.run_to.new.sink) (g.S.Spawner.asked c.args.spawner.now) (g.S.Spawner.asked c.run_to.new.spawner) (g.S.Spawner.fate c.run_to.new.spawner)
    c.run_to.result.clocks (length c.args.callbacks) _ c.run_to.result.status c.run_to.ensures.ends c.run_to.ensures.clocks

pub returns-in-Ok-clause-callers : goal.returns-in-Ok-clause-callers
returns-in-Ok-clause-callers g c =
    ran_callers g.K.One.Clock.given c.in-Ok.script (g.W.Sink.written c.args.sink.now) (g.W.Sink.written c.run_to.new.sink) (g.S.Spawner.asked c.args.spawner.now) (g.S.Spawner.asked c.run_to.new.spawner) (g.S.Spawner.fate c.run_to.new.spawner)
    c.run_to.result.clocks (length c.args.callbacks) _ c.run_to.result.status c.run_to.ensures.ends c.run_to.ensures.clocks

pub returns-in-Err-clause-whose : goal.returns-in-Err-clause-whose
returns-in-Err-clause-whose g c = none_whose g.K.One.Clock.given c.new.result c.new.ensures

pub returns-in-Err-clause-callers : goal.returns-in-Err-clause-callers
returns-in-Err-clause-callers g c = unread_callers c.in-Err.status (length c.new.result) c.in-Err.ensures.causes (ap length c.new.ensures)
