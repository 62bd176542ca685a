use Rattle.std.proofs.Common.{inl, inr, subst}
use Rattle.drmaa_model.specs.History.{Ledger}
use Rattle.change_callbacks.specs.Places.{registrations_of}
use Rattle.script_asks.specs.Plays.{serial_play}
use Rattle.script_play.specs.CallbackLaws.{front-after-none, heard-after-none}
use Rattle.script_play.specs.Callbacks.{HearFront, HearFrontAfter, HearHistoryAfter}
use Rattle.script_play.specs.View.{start_of}
use Rattle.script_commands.specs.Plays.{play_behind, served_behind}
use Rattle.script_commands.proofs.Returned.{same_front}
use Rattle.script_commands.proofs.plays.play_new.Goals as goal

pub returns-in-Ok-clause-heard : goal.returns-in-Ok-clause-heard
returns-in-Ok-clause-heard g c = λ played.
    let s = c.args.script.now in
    heard-after-none s.config (serial_play s).entries c.args.callbacks c.play_to.result.callbacks
    (subst (λ (l : Ledger). HearHistoryAfter g.B.Callback.counted g.B.Callback.told (registrations_of l.config l.history) l.config (served_behind l s).history c.args.callbacks c.play_to.result.callbacks)
    c.in-Ok.ensures.new (c.play_to.ensures.heard played))

pub returns-in-Ok-clause-heard_front : goal.returns-in-Ok-clause-heard_front
returns-in-Ok-clause-heard_front g c = λ want.
    let s = c.args.script.now in
    let history = (serial_play s).entries in
    elim (c.play_to.ensures.heard_front want) as (λ _. HearFront g.B.Callback.counted g.B.Callback.told s.config history c.args.callbacks c.play_to.result.callbacks) [
      | inl same ↦ same_front g.B.Callback.counted g.B.Callback.told s.config history c.args.callbacks c.play_to.result.callbacks same
      | inr some ↦
          front-after-none s.config history c.args.callbacks c.play_to.result.callbacks
          (subst (λ (l : Ledger). HearFrontAfter g.B.Callback.counted g.B.Callback.told l.config (start_of l) (play_behind l s).entries c.args.callbacks c.play_to.result.callbacks) c.in-Ok.ensures.new some)
    ]
