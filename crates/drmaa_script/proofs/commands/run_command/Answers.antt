use Rattle.std.proofs.Common.{refl, sym, subst}
use Rattle.command_words.specs.declared.commands.Command.{Command}
use Rattle.command_words.specs.declared.commands.Command.TheVariants.{Serial, Table, Check, Migrate, Json, Forecast, Continue, Recur, Soak}
use Rattle.drmaa_script.specs.Left.{LeftByCommand}
use Rattle.drmaa_script.proofs.Left.{callerless, on_journal, soaked}
use Rattle.drmaa_script.proofs.Possible.{check_ends, migrate_ends, json_ends}
use Rattle.drmaa_script.proofs.commands.run_command.Goals as goal

-- the plays on one thread
pub returns-in-Serial : goal.returns-in-Serial
returns-in-Serial g c =
    let p = c.run_play.ensures in
    let o = c.without_clocks.ensures in
    callerless g.B.Callback.counted g.B.Callback.told g.K.One.Clock.given g.R.Source.left g.R.Source.faults g.W.Sink.written g.W.Sink.faults g.W.Sink.finished g.S.Spawner.asked g.S.Spawner.fate
    c.args.source.now c.run_play.new.source c.args.sink.now c.run_play.new.sink c.args.spawner.now c.args.callbacks
    c.args.command Serial c.run_play.result.callbacks c.without_clocks.result.callbacks c.without_clocks.result.clocks c.run_play.result.status c.without_clocks.result.status c.in-Serial.is o.callbacks o.clocks o.status (record {
      ends = p.ends;
      possible = p.possible;
      soaks = tt;
      unread = tt;
      words = p.words;
      read_whole = λ reads. p.read_whole;
      read_out = λ line reads. p.read_out line;
      read_fault = p.read_fault;
      finished = p.finished;
      untouched = p.untouched;
      write_fault = p.write_fault;
      whole = p.whole;
      writable = p.writable;
      clocks = λ no. refl;
      whose = λ h. absurd h;
      callers = λ h. absurd h;
      unasked = λ no. refl;
      unstarted = λ no. refl;
      fates = refl;
      heard = λ alone. p.heard;
      heard_front = λ alone. p.heard_front;
      returned = p.returned;
      unheard = p.unheard;
      deaf = λ is. absurd is;
    })

pub returns-in-Table : goal.returns-in-Table
returns-in-Table g c =
    let p = c.run_play-in-Table.ensures in
    let o = c.without_clocks-in-Table.ensures in
    callerless g.B.Callback.counted g.B.Callback.told g.K.One.Clock.given g.R.Source.left g.R.Source.faults g.W.Sink.written g.W.Sink.faults g.W.Sink.finished g.S.Spawner.asked g.S.Spawner.fate
    c.args.source.now c.run_play-in-Table.new.source c.args.sink.now c.run_play-in-Table.new.sink c.args.spawner.now c.args.callbacks
    c.args.command Table c.run_play-in-Table.result.callbacks c.without_clocks-in-Table.result.callbacks c.without_clocks-in-Table.result.clocks c.run_play-in-Table.result.status c.without_clocks-in-Table.result.status c.in-Table.is o.callbacks o.clocks o.status (record {
      ends = p.ends;
      possible = p.possible;
      soaks = tt;
      unread = tt;
      words = p.words;
      read_whole = λ reads. p.read_whole;
      read_out = λ line reads. p.read_out line;
      read_fault = p.read_fault;
      finished = p.finished;
      untouched = p.untouched;
      write_fault = p.write_fault;
      whole = p.whole;
      writable = p.writable;
      clocks = λ no. refl;
      whose = λ h. absurd h;
      callers = λ h. absurd h;
      unasked = λ no. refl;
      unstarted = λ no. refl;
      fates = refl;
      heard = λ alone. p.heard;
      heard_front = λ alone. p.heard_front;
      returned = p.returned;
      unheard = p.unheard;
      deaf = λ is. absurd is;
    })

pub returns-in-Continue : goal.returns-in-Continue
returns-in-Continue g c =
    let p = c.run_continue.ensures in
    let o = c.without_clocks-in-Continue.ensures in
    callerless g.B.Callback.counted g.B.Callback.told g.K.One.Clock.given g.R.Source.left g.R.Source.faults g.W.Sink.written g.W.Sink.faults g.W.Sink.finished g.S.Spawner.asked g.S.Spawner.fate
    c.args.source.now c.run_continue.new.source c.args.sink.now c.run_continue.new.sink c.args.spawner.now c.args.callbacks
    c.args.command Continue c.run_continue.result.callbacks c.without_clocks-in-Continue.result.callbacks c.without_clocks-in-Continue.result.clocks c.run_continue.result.status c.without_clocks-in-Continue.result.status c.in-Continue.is o.callbacks o.clocks o.status (record {
      ends = p.ends;
      possible = tt;
      soaks = tt;
      unread = tt;
      words = p.words;
      read_whole = λ reads. p.read_whole;
      read_out = λ line reads. p.read_out line;
      read_fault = p.read_fault;
      finished = p.finished;
      untouched = p.untouched;
      write_fault = p.write_fault;
      whole = p.whole;
      writable = λ h. absurd h;
      clocks = λ no. refl;
      whose = λ h. absurd h;
      callers = λ h. absurd h;
      unasked = λ no. refl;
      unstarted = λ no. refl;
      fates = refl;
      heard = λ h. absurd h;
      heard_front = λ h. absurd h;
      returned = p.returned;
      unheard = p.unheard;
      deaf = λ is. absurd is;
    })

-- the play in threads
pub returns-in-Threads : goal.returns-in-Threads
returns-in-Threads g c =
    let t = c.run_threads.ensures in
    subst (λ (k : Command). LeftByCommand g.B.Callback.counted g.B.Callback.told g.K.One.Clock.given g.R.Source.left g.R.Source.faults g.W.Sink.written g.W.Sink.faults g.W.Sink.finished g.S.Spawner.asked g.S.Spawner.fate
    k c.args.source.now c.run_threads.new.source c.args.sink.now c.run_threads.new.sink c.args.spawner.now c.run_threads.new.spawner c.args.callbacks c.run_threads.result.callbacks c.run_threads.result.clocks c.run_threads.result.status)
    (sym c.in-Threads.is) (record {
      ends = t.ends;
      possible = t.possible;
      soaks = tt;
      unread = tt;
      words = t.words;
      read_whole = λ reads. t.read_whole;
      read_out = λ line reads. t.read_out line;
      read_fault = t.read_fault;
      finished = t.finished;
      untouched = t.untouched;
      write_fault = t.write_fault;
      whole = t.whole;
      writable = λ h. absurd h;
      clocks = t.clocks;
      whose = λ h. t.whose;
      callers = λ h. t.callers;
      unasked = λ no. absurd (no tt);
      unstarted = t.unstarted;
      fates = t.fates;
      heard = λ h. absurd h;
      heard_front = λ h. absurd h;
      returned = t.returned;
      unheard = t.unheard;
      deaf = λ is. absurd is;
    })

-- the commands on journals
pub returns-in-Check : goal.returns-in-Check
returns-in-Check g c =
    let d = c.run_deaf.ensures in
    callerless g.B.Callback.counted g.B.Callback.told g.K.One.Clock.given g.R.Source.left g.R.Source.faults g.W.Sink.written g.W.Sink.faults g.W.Sink.finished g.S.Spawner.asked g.S.Spawner.fate
    c.args.source.now c.run_deaf.new.source c.args.sink.now c.run_deaf.new.sink c.args.spawner.now c.args.callbacks
    c.args.command Check c.args.callbacks c.run_deaf.result.callbacks c.run_deaf.result.clocks c.run_deaf.result.status c.run_deaf.result.status c.in-Check.is d.deaf d.clocks refl
    (on_journal g.B.Callback.counted g.B.Callback.told g.K.One.Clock.given g.R.Source.left g.R.Source.faults g.W.Sink.written g.W.Sink.faults g.W.Sink.finished g.S.Spawner.asked g.S.Spawner.fate
    c.args.source.now c.run_deaf.new.source c.args.sink.now c.run_deaf.new.sink c.args.spawner.now c.args.callbacks
    Check c.run_deaf.result.status refl (λ h. h) (λ h. h) (λ h. h) tt tt d.ends (check_ends c.run_deaf.result.status d.came) d.words d.read_whole d.read_out d.read_fault d.finished d.untouched d.write_fault d.whole)

pub returns-in-Migrate : goal.returns-in-Migrate
returns-in-Migrate g c =
    let d = c.run_deaf-in-Migrate.ensures in
    callerless g.B.Callback.counted g.B.Callback.told g.K.One.Clock.given g.R.Source.left g.R.Source.faults g.W.Sink.written g.W.Sink.faults g.W.Sink.finished g.S.Spawner.asked g.S.Spawner.fate
    c.args.source.now c.run_deaf-in-Migrate.new.source c.args.sink.now c.run_deaf-in-Migrate.new.sink c.args.spawner.now c.args.callbacks
    c.args.command Migrate c.args.callbacks c.run_deaf-in-Migrate.result.callbacks c.run_deaf-in-Migrate.result.clocks c.run_deaf-in-Migrate.result.status c.run_deaf-in-Migrate.result.status c.in-Migrate.is d.deaf d.clocks refl
    (on_journal g.B.Callback.counted g.B.Callback.told g.K.One.Clock.given g.R.Source.left g.R.Source.faults g.W.Sink.written g.W.Sink.faults g.W.Sink.finished g.S.Spawner.asked g.S.Spawner.fate
    c.args.source.now c.run_deaf-in-Migrate.new.source c.args.sink.now c.run_deaf-in-Migrate.new.sink c.args.spawner.now c.args.callbacks
    Migrate c.run_deaf-in-Migrate.result.status refl (λ h. h) (λ h. h) (λ h. h) tt tt d.ends (migrate_ends c.run_deaf-in-Migrate.result.status d.came) d.words d.read_whole d.read_out d.read_fault d.finished d.untouched d.write_fault d.whole)

pub returns-in-Json : goal.returns-in-Json
returns-in-Json g c =
    let d = c.run_deaf-in-Json.ensures in
    callerless g.B.Callback.counted g.B.Callback.told g.K.One.Clock.given g.R.Source.left g.R.Source.faults g.W.Sink.written g.W.Sink.faults g.W.Sink.finished g.S.Spawner.asked g.S.Spawner.fate
    c.args.source.now c.run_deaf-in-Json.new.source c.args.sink.now c.run_deaf-in-Json.new.sink c.args.spawner.now c.args.callbacks
    c.args.command Json c.args.callbacks c.run_deaf-in-Json.result.callbacks c.run_deaf-in-Json.result.clocks c.run_deaf-in-Json.result.status c.run_deaf-in-Json.result.status c.in-Json.is d.deaf d.clocks refl
    (on_journal g.B.Callback.counted g.B.Callback.told g.K.One.Clock.given g.R.Source.left g.R.Source.faults g.W.Sink.written g.W.Sink.faults g.W.Sink.finished g.S.Spawner.asked g.S.Spawner.fate
    c.args.source.now c.run_deaf-in-Json.new.source c.args.sink.now c.run_deaf-in-Json.new.sink c.args.spawner.now c.args.callbacks
    Json c.run_deaf-in-Json.result.status refl (λ h. h) (λ h. h) (λ h. h) tt tt d.ends (json_ends c.run_deaf-in-Json.result.status d.came) d.words d.read_whole d.read_out d.read_fault d.finished d.untouched d.write_fault d.whole)

pub returns-in-Forecast : goal.returns-in-Forecast
returns-in-Forecast g c =
    let d = c.run_deaf-in-Forecast.ensures in
    callerless g.B.Callback.counted g.B.Callback.told g.K.One.Clock.given g.R.Source.left g.R.Source.faults g.W.Sink.written g.W.Sink.faults g.W.Sink.finished g.S.Spawner.asked g.S.Spawner.fate
    c.args.source.now c.run_deaf-in-Forecast.new.source c.args.sink.now c.run_deaf-in-Forecast.new.sink c.args.spawner.now c.args.callbacks
    c.args.command Forecast c.args.callbacks c.run_deaf-in-Forecast.result.callbacks c.run_deaf-in-Forecast.result.clocks c.run_deaf-in-Forecast.result.status c.run_deaf-in-Forecast.result.status c.in-Forecast.is d.deaf d.clocks refl
    (on_journal g.B.Callback.counted g.B.Callback.told g.K.One.Clock.given g.R.Source.left g.R.Source.faults g.W.Sink.written g.W.Sink.faults g.W.Sink.finished g.S.Spawner.asked g.S.Spawner.fate
    c.args.source.now c.run_deaf-in-Forecast.new.source c.args.sink.now c.run_deaf-in-Forecast.new.sink c.args.spawner.now c.args.callbacks
    Forecast c.run_deaf-in-Forecast.result.status refl (λ h. h) (λ h. h) (λ h. h) tt tt d.ends d.words d.words d.read_whole d.read_out d.read_fault d.finished d.untouched d.write_fault d.whole)

pub returns-in-Recur : goal.returns-in-Recur
returns-in-Recur g c =
    let d = c.run_deaf-in-Recur.ensures in
    callerless g.B.Callback.counted g.B.Callback.told g.K.One.Clock.given g.R.Source.left g.R.Source.faults g.W.Sink.written g.W.Sink.faults g.W.Sink.finished g.S.Spawner.asked g.S.Spawner.fate
    c.args.source.now c.run_deaf-in-Recur.new.source c.args.sink.now c.run_deaf-in-Recur.new.sink c.args.spawner.now c.args.callbacks
    c.args.command (Recur c.in-Recur.words) c.args.callbacks c.run_deaf-in-Recur.result.callbacks c.run_deaf-in-Recur.result.clocks c.run_deaf-in-Recur.result.status c.run_deaf-in-Recur.result.status c.in-Recur.is d.deaf d.clocks refl
    (on_journal g.B.Callback.counted g.B.Callback.told g.K.One.Clock.given g.R.Source.left g.R.Source.faults g.W.Sink.written g.W.Sink.faults g.W.Sink.finished g.S.Spawner.asked g.S.Spawner.fate
    c.args.source.now c.run_deaf-in-Recur.new.source c.args.sink.now c.run_deaf-in-Recur.new.sink c.args.spawner.now c.args.callbacks
    (Recur c.in-Recur.words) c.run_deaf-in-Recur.result.status refl (λ h. h) (λ h. h) (λ h. h) tt tt d.ends d.words d.words d.read_whole d.read_out d.read_fault d.finished d.untouched d.write_fault d.whole)

-- the soak
pub returns-in-Soak : goal.returns-in-Soak
returns-in-Soak g c =
    let s = c.run_soak-status.ensures in
    let o = c.without_clocks-in-Soak.ensures in
    callerless g.B.Callback.counted g.B.Callback.told g.K.One.Clock.given g.R.Source.left g.R.Source.faults g.W.Sink.written g.W.Sink.faults g.W.Sink.finished g.S.Spawner.asked g.S.Spawner.fate
    c.args.source.now c.args.source.now c.args.sink.now c.run_soak-status.new.sink c.args.spawner.now c.args.callbacks
    c.args.command (Soak c.in-Soak.words) c.args.callbacks c.without_clocks-in-Soak.result.callbacks c.without_clocks-in-Soak.result.clocks c.run_soak-status.result c.without_clocks-in-Soak.result.status c.in-Soak.is o.callbacks o.clocks o.status
    (soaked g.B.Callback.counted g.B.Callback.told g.K.One.Clock.given g.R.Source.left g.R.Source.faults g.W.Sink.written g.W.Sink.faults g.W.Sink.finished g.S.Spawner.asked g.S.Spawner.fate
    c.args.source.now c.args.source.now c.args.sink.now c.run_soak-status.new.sink c.args.spawner.now c.args.callbacks
    c.in-Soak.words c.run_soak-status.result s.ends s.finished s.fault s.untouched)
