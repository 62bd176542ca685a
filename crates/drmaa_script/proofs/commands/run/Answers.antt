use Rattle.std.proofs.Common.{Option, inl, inr, refl, subst}
use Rattle.std.specs.Prelude.{MatchOption}
use Rattle.command_words.specs.declared.commands.Command.{Command}
use Rattle.command_words.specs.declared.commands.Command.TheVariants.{Soak}
use Rattle.journal_commands.specs.Statuses.{HasWritten}
use Rattle.drmaa_script.specs.Commands.{Asks, NamesNone}
use Rattle.drmaa_script.specs.Left.{LeftByCommand}
use Rattle.drmaa_script.proofs.Asked.{the_command, found_is, all_whose}
use Rattle.drmaa_script.proofs.Left.{callerless, unbegun_left}
use Rattle.drmaa_script.proofs.Ran.{none_whose}
use Rattle.drmaa_script.proofs.commands.run.Goals as goal

-- the words ask for a command: what it leaves is left by each command that they ask for
pub returns-in-Ok-Some : goal.returns-in-Ok-Some
returns-in-Ok-Some g c =
    let words = c.args.words.now in
    let found : Asks words c.in-Ok-Some.command = found_is c.in-Ok-Some.field-0 c.in-Ok-Some.command (NamesNone words) (Asks words) c.in-Ok-Some.field-0-is c.in-Ok-Some.ensures.named in
    let r = c.run_command.ensures in
    let left : (command : Command) → Asks words command → LeftByCommand g.B.Callback.counted g.B.Callback.told g.K.One.Clock.given g.R.Source.left g.R.Source.faults g.W.Sink.written g.W.Sink.faults g.W.Sink.finished g.S.Spawner.asked g.S.Spawner.fate
    command c.args.source.now c.run_command.new.source c.args.sink.now c.run_command.new.sink c.args.spawner.now c.run_command.new.spawner c.args.callbacks c.run_command.result.callbacks c.run_command.result.clocks c.run_command.result.status =
    λ command asks. subst (λ (k : Command). LeftByCommand g.B.Callback.counted g.B.Callback.told g.K.One.Clock.given g.R.Source.left g.R.Source.faults g.W.Sink.written g.W.Sink.faults g.W.Sink.finished g.S.Spawner.asked g.S.Spawner.fate
    k c.args.source.now c.run_command.new.source c.args.sink.now c.run_command.new.sink c.args.spawner.now c.run_command.new.spawner c.args.callbacks c.run_command.result.callbacks c.run_command.result.clocks c.run_command.result.status)
    (the_command words c.in-Ok-Some.command command found asks) r in
    record {
      ends = λ command asks. (left command asks).ends;
      read_whole = λ command asks. (left command asks).read_whole;
      read_out = λ command line asks. (left command asks).read_out line;
      finished = r.finished;
      untouched = r.untouched;
      words = λ none. absurd (none c.in-Ok-Some.command found);
      dashed = λ dash. absurd (let e = c.in-Ok-Some.ensures.dashed dash in let i = c.in-Ok-Some.field-0-is in cc);
      wordless = λ no. absurd (let e = c.in-Ok-Some.ensures.wordless no in let i = c.in-Ok-Some.field-0-is in cc);
      unread = λ none. absurd (none c.in-Ok-Some.command found);
      words_read = λ e. inr (r.words e);
      soaks = λ soak asks. (left (Soak soak) asks).soaks;
      unread_soak = λ soak asks. (left (Soak soak) asks).unread;
      possible = λ command asks. (left command asks).possible;
      read_fault = r.read_fault;
      write_fault = r.write_fault;
      whole = λ command asks. (left command asks).whole;
      writable = λ command asks. (left command asks).writable;
      clocks = λ none. r.clocks (none c.in-Ok-Some.command found);
      whose = all_whose g.K.One.Clock.given c.run_command.result.clocks c.in-Ok-Some.command c.run_command.result.status r.clocks r.whose;
      callers = λ command asks. (left command asks).callers;
      unasked = λ none. r.unasked (none c.in-Ok-Some.command found);
      unstarted = r.unstarted;
      fates = r.fates;
      heard = λ command asks. (left command asks).heard;
      heard_front = λ command asks. (left command asks).heard_front;
      returned = r.returned;
      unheard = r.unheard;
      unnamed = λ none. absurd (none c.in-Ok-Some.command found);
      deaf = λ command asks. (left command asks).deaf;
    }

-- they ask for none
pub returns-in-Ok-None : goal.returns-in-Ok-None
returns-in-Ok-None g c =
    let none : NamesNone c.args.words.now = subst (λ (o : Option Command). MatchOption o (NamesNone c.args.words.now) (Asks c.args.words.now)) c.in-Ok-None.field-0-is c.in-Ok-None.ensures.named in
    let u = c.unbegun.ensures in
    record {
      ends = λ command asks. absurd (none command asks);
      read_whole = λ command asks. absurd (none command asks);
      read_out = λ command line asks. absurd (none command asks);
      finished = λ h. absurd (subst HasWritten u.status h);
      untouched = λ q. refl;
      words = λ _. inl u.status;
      dashed = λ _. u.status;
      wordless = λ _. u.status;
      unread = λ _. refl;
      words_read = λ _. inl none;
      soaks = λ soak asks. absurd (none (Soak soak) asks);
      unread_soak = λ soak asks. refl;
      possible = λ command asks. absurd (none command asks);
      read_fault = λ e. absurd (let s = u.status in cc);
      write_fault = λ e. absurd (let s = u.status in cc);
      whole = λ command asks. absurd (none command asks);
      writable = λ command asks. absurd (none command asks);
      clocks = λ _. u.clocks;
      whose = none_whose g.K.One.Clock.given c.unbegun.result.clocks u.clocks;
      callers = λ command asks. absurd (none command asks);
      unasked = λ _. refl;
      unstarted = λ _. refl;
      fates = refl;
      heard = λ command asks. absurd (none command asks);
      heard_front = λ command asks. absurd (none command asks);
      returned = u.returned;
      unheard = λ _. u.deaf;
      unnamed = λ _. u.deaf;
      deaf = λ command asks is. u.deaf;
    }

-- memory ran out before it was known whether they do
pub returns-in-Err : goal.returns-in-Err
returns-in-Err g c =
    let u = c.unbegun-in-Err.ensures in
    let left : (command : Command) → LeftByCommand g.B.Callback.counted g.B.Callback.told g.K.One.Clock.given g.R.Source.left g.R.Source.faults g.W.Sink.written g.W.Sink.faults g.W.Sink.finished g.S.Spawner.asked g.S.Spawner.fate
    command c.args.source.now c.args.source.now c.args.sink.now c.args.sink.now c.args.spawner.now c.args.spawner.now c.args.callbacks c.unbegun-in-Err.result.callbacks c.unbegun-in-Err.result.clocks c.unbegun-in-Err.result.status =
    λ command. callerless g.B.Callback.counted g.B.Callback.told g.K.One.Clock.given g.R.Source.left g.R.Source.faults g.W.Sink.written g.W.Sink.faults g.W.Sink.finished g.S.Spawner.asked g.S.Spawner.fate
    c.args.source.now c.args.source.now c.args.sink.now c.args.sink.now c.args.spawner.now c.args.callbacks
    command command c.args.callbacks c.unbegun-in-Err.result.callbacks c.unbegun-in-Err.result.clocks _ c.unbegun-in-Err.result.status refl u.deaf u.clocks u.status
    (unbegun_left g.B.Callback.counted g.B.Callback.told g.K.One.Clock.given g.R.Source.left g.R.Source.faults g.W.Sink.written g.W.Sink.faults g.W.Sink.finished g.S.Spawner.asked g.S.Spawner.fate
    c.args.source.now c.args.source.now c.args.sink.now c.args.sink.now c.args.spawner.now c.args.callbacks command) in
    record {
      ends = λ command asks. (left command).ends;
      read_whole = λ command asks. (left command).read_whole;
      read_out = λ command line asks. (left command).read_out line;
      finished = λ h. absurd (subst HasWritten u.status h);
      untouched = λ q. refl;
      words = λ none. inr u.status;
      dashed = λ dash. absurd (let e = c.in-Err.ensures.dashed dash in cc);
      wordless = λ no. absurd (let e = c.in-Err.ensures.wordless no in cc);
      unread = λ _. refl;
      words_read = λ e. absurd (let s = u.status in cc);
      soaks = λ soak asks. (left (Soak soak)).soaks;
      unread_soak = λ soak asks. refl;
      possible = λ command asks. (left command).possible;
      read_fault = λ e. absurd (let s = u.status in cc);
      write_fault = λ e. absurd (let s = u.status in cc);
      whole = λ command asks. (left command).whole;
      writable = λ command asks. (left command).writable;
      clocks = λ _. u.clocks;
      whose = none_whose g.K.One.Clock.given c.unbegun-in-Err.result.clocks u.clocks;
      callers = λ command asks. (left command).callers;
      unasked = λ _. refl;
      unstarted = λ _. refl;
      fates = refl;
      heard = λ command asks. (left command).heard;
      heard_front = λ command asks. (left command).heard_front;
      returned = u.returned;
      unheard = λ _. u.deaf;
      unnamed = λ _. u.deaf;
      deaf = λ command asks is. u.deaf;
    }
