use Rattle.std.proofs.Common.{length, sym, subst, ◌∙◌}
use Rattle.journal_commands.specs.declared.status.Status.{Status}
use Rattle.thread_play.specs.Hubs.{HearRun}
use Rattle.drmaa_script.specs.Running.{IsTextOfRun, RanEnds}
use Rattle.drmaa_script.specs.Runs.{IsRunEnd, LeavesClocks}
use Rattle.journal_commands.specs.Statuses.{IsQuiet, IsUnstarted}
use Rattle.journal_commands.specs.StatusLaws.{ended_loud, ended_begun, ended_no_fault}
use Rattle.drmaa_script.proofs.Ran.{ran_written, ran_front, ended_run, ended_clocks}
use Rattle.drmaa_script.proofs.threads.write_run.Goals as goal

-- the journal was written
pub returns-in-Ok-write_all-clause-ends : goal.returns-in-Ok-write_all-clause-ends
returns-in-Ok-write_all-clause-ends g c =
    let s = c.args.script.now in
    subst (λ (status : Status). RanEnds g.K.One.Clock.given s (length c.args.hub.now.ears.begun) (λ history. HearRun s.config history c.run_text.new.hub) (g.W.Sink.written c.args.sink.now) (g.W.Sink.written c.write_all.new.sink)
    (g.S.Spawner.asked c.args.spawner.now) (g.S.Spawner.asked c.run_text.new.spawner) (g.S.Spawner.fate c.run_text.new.spawner) c.in-Ok.text.clocks status) (sym c.ended_as.ensures)
    (ran_written g.K.One.Clock.given s (g.W.Sink.written c.args.sink.now) (g.W.Sink.written c.write_all.new.sink) (g.S.Spawner.asked c.args.spawner.now) (g.S.Spawner.asked c.run_text.new.spawner) (g.S.Spawner.fate c.run_text.new.spawner)
    c.in-Ok.text.clocks (length c.args.hub.now.ears.begun) (λ history. HearRun s.config history c.run_text.new.hub) c.as_slice.result.now c.in-Ok.text.full c.requires.enough
    (subst (λ b. IsTextOfRun g.K.One.Clock.given s b (g.S.Spawner.asked c.args.spawner.now) (g.S.Spawner.asked c.run_text.new.spawner) (g.S.Spawner.fate c.run_text.new.spawner) c.in-Ok.text.clocks c.in-Ok.text.full
    (λ history. HearRun s.config history c.run_text.new.hub)) (sym c.as_slice.ensures) c.in-Ok.ensures.text) c.in-Ok-write_all.ensures.ok)

pub returns-in-Ok-write_all-clause-finished : goal.returns-in-Ok-write_all-clause-finished
returns-in-Ok-write_all-clause-finished g c = λ _. c.in-Ok-write_all.ensures.finished

pub returns-in-Ok-write_all-clause-fault : goal.returns-in-Ok-write_all-clause-fault
returns-in-Ok-write_all-clause-fault g c = λ e. absurd (ended_no_fault c.in-Ok.text.full (sym c.ended_as.ensures ∙ e))

pub returns-in-Ok-write_all-clause-untouched : goal.returns-in-Ok-write_all-clause-untouched
returns-in-Ok-write_all-clause-untouched g c = λ q. absurd (ended_loud c.in-Ok.text.full (subst IsQuiet c.ended_as.ensures q))

pub returns-in-Ok-write_all-clause-whole : goal.returns-in-Ok-write_all-clause-whole
returns-in-Ok-write_all-clause-whole g c = λ _. subst IsRunEnd (sym c.ended_as.ensures) (ended_run c.in-Ok.text.full)

pub returns-in-Ok-write_all-clause-clocks : goal.returns-in-Ok-write_all-clause-clocks
returns-in-Ok-write_all-clause-clocks g c = λ none. absurd (none (subst LeavesClocks (sym c.ended_as.ensures) (ended_clocks c.in-Ok.text.full)))

pub returns-in-Ok-write_all-clause-begins : goal.returns-in-Ok-write_all-clause-begins
returns-in-Ok-write_all-clause-begins g c = λ u. ended_begun c.in-Ok.text.full (subst IsUnstarted c.ended_as.ensures u)

-- a front of it was written
pub returns-clause-ends : goal.returns-clause-ends
returns-clause-ends g c =
    let s = c.args.script.now in
    ran_front g.K.One.Clock.given s (g.W.Sink.written c.args.sink.now) (g.W.Sink.written c.write_all.new.sink) (g.S.Spawner.asked c.args.spawner.now) (g.S.Spawner.asked c.run_text.new.spawner) (g.S.Spawner.fate c.run_text.new.spawner)
    c.in-Ok.text.clocks c.new-in-Err.result (length c.args.hub.now.ears.begun) (λ history. HearRun s.config history c.run_text.new.hub) c.as_slice.result.now c.in-Ok.text.full c.requires.enough
    (subst (λ b. IsTextOfRun g.K.One.Clock.given s b (g.S.Spawner.asked c.args.spawner.now) (g.S.Spawner.asked c.run_text.new.spawner) (g.S.Spawner.fate c.run_text.new.spawner) c.in-Ok.text.clocks c.in-Ok.text.full
    (λ history. HearRun s.config history c.run_text.new.hub)) (sym c.as_slice.ensures) c.in-Ok.ensures.text) c.in-Err.ensures.err

pub returns-clause-fault : goal.returns-clause-fault
returns-clause-fault g c = λ _. c.in-Err.ensures.fault

pub returns-clause-whole : goal.returns-clause-whole
returns-clause-whole g c = λ calm. absurd (calm c.in-Err.ensures.fault)
