use Rattle.std.proofs.Common.{ℕ, List, length, ap, subst, ◌∙◌}
use Rattle.drmaa_model.specs.declared.entries.Entry.{Entry}
use Rattle.notify_hub.specs.Hubs.{Following}
use Rattle.script_play.specs.Callbacks.{HearHistory}
use Rattle.thread_play.specs.Hubs.{HearRun}
use Rattle.drmaa_script.specs.Running.{RanEnds}
use Rattle.script_commands.proofs.Returned.{returned_heard}
use Rattle.drmaa_script.proofs.Ran.{ran_heard, ran_possible, hub_hears}
use Rattle.drmaa_script.proofs.threads.run_to.Goals as goal

pub returns-clause-ends : goal.returns-clause-ends
returns-clause-ends g c =
    let s = c.args.script.now in
    let old = g.W.Sink.written c.args.sink.now in
    let new = g.W.Sink.written c.write_run-status.new.sink in
    let asked = g.S.Spawner.asked c.args.spawner.now in
    let asked_after = g.S.Spawner.asked c.write_run-status.new.spawner in
    let fate = g.S.Spawner.fate c.write_run-status.new.spawner in
    let hub = c.write_run-status.new.hub in
    let begun = c.write_run-status.ensures.begun ∙ ap (λ (h : Following g.row.B.Denot). h.ears.begun) c.in-Ok.ensures.ok in
    let run : List Entry → Type 0 = λ history. HearRun s.config history hub in
    let heard : List Entry → Type 0 = λ history. HearHistory g.B.Callback.counted g.B.Callback.told s.config history c.args.callbacks c.take_back.result in
    ran_heard g.K.One.Clock.given s old new asked asked_after fate c.write_run-status.result.clocks (length c.args.callbacks) run heard c.write_run-status.result.status
    (hub_hears g.B.Callback.counted g.B.Callback.told s.config hub c.args.callbacks c.take_back.result begun (c.write_run-status.ensures.heard c.in-Ok.ensures.heard) c.take_back.ensures.all)
    (subst (λ (n : ℕ). RanEnds g.K.One.Clock.given s n run old new asked asked_after fate c.write_run-status.result.clocks c.write_run-status.result.status)
    (ap (λ (h : Following g.row.B.Denot). length h.ears.begun) c.in-Ok.ensures.ok) c.write_run-status.ensures.ends)

pub returns-clause-returned : goal.returns-clause-returned
returns-clause-returned g c =
    let begun = c.write_run-status.ensures.begun ∙ ap (λ (h : Following g.row.B.Denot). h.ears.begun) c.in-Ok.ensures.ok in
    returned_heard g.B.Callback.counted g.B.Callback.told c.write_run-status.new.hub.ears c.args.callbacks c.take_back.result (c.write_run-status.ensures.heard c.in-Ok.ensures.heard) begun c.take_back.ensures.callbacks

pub returns-clause-possible : goal.returns-clause-possible
returns-clause-possible g c =
    ran_possible g.K.One.Clock.given c.args.script.now (g.W.Sink.written c.args.sink.now) (g.W.Sink.written c.write_run-status.new.sink) (g.S.Spawner.asked c.args.spawner.now) (g.S.Spawner.asked c.write_run-status.new.spawner)
    (g.S.Spawner.fate c.write_run-status.new.spawner) c.write_run-status.result.clocks _ _ c.write_run-status.result.status c.write_run-status.ensures.ends
