use Rattle.std.proofs.Common.{sym, ap, subst, ◌∙◌}
use Rattle.drmaa_model.specs.History.{Ledger, now_of}
use Rattle.change_callbacks.specs.Places.{registrations_of}
use Rattle.script_asks.specs.Plays.{serial_play_from}
use Rattle.script_play.specs.Callbacks.{AreCurrentAfter, HaveFrontAfter}
use Rattle.script_play.specs.Served.{IsServed}
use Rattle.script_play.specs.View.{View}
use Rattle.script_play.proofs.Along.{play-along, play-part}
use Rattle.script_play.proofs.Fronts.{on_err}
use Rattle.script_play.proofs.serial.play_on.Goals as goal

pub returns-clause-ledger : goal.returns-clause-ledger
returns-clause-ledger g c =
    c.played_by.ensures.machine
    ∙ (subst (λ (v : View). IsServed v.ledger c.args.script.now c.in_ok-play_from.field-0) c.new-player.ensures.player c.in_ok-play_from.ensures.served).ledger

pub returns-clause-world : goal.returns-clause-world
returns-clause-world g c =
    ap (λ (l : Ledger). now_of l) c.played_by.ensures.machine
    ∙ (subst (λ (v : View). IsServed v.ledger c.args.script.now c.in_ok-play_from.field-0) c.new-player.ensures.player c.in_ok-play_from.ensures.served).world

pub returns-clause-full : goal.returns-clause-full
returns-clause-full g c =
    c.played_by.ensures.full
    ∙ (subst (λ (v : View). IsServed v.ledger c.args.script.now c.in_ok-play_from.field-0) c.new-player.ensures.player c.in_ok-play_from.ensures.served).full

pub returns-clause-current : goal.returns-clause-current
returns-clause-current g c =
    let before = c.args.machine.ledger in
    subst (λ (l : Ledger). AreCurrentAfter g.B.Callback.counted g.B.Callback.told (registrations_of before.config before.history) l c.play_from.new.ears) (sym c.played_by.ensures.machine)
    (subst (λ (v : View). AreCurrentAfter g.B.Callback.counted g.B.Callback.told v.start.callbacks c.in_ok-play_from.field-0.ledger c.play_from.new.ears) c.new-player.ensures.player c.in_ok-play_from.ensures.current)

pub returns-in_err-play_from-clause-front : goal.returns-in_err-play_from-clause-front
returns-in_err-play_from-clause-front g c =
    on_err c.from_residual.result _
    (subst (λ (v : View). HaveFrontAfter g.B.Callback.counted g.B.Callback.told v.ledger.config v.start (serial_play_from (now_of v.ledger) c.args.script.now).entries c.play_from.new.ears) c.new-player.ensures.player
    c.in_err-play_from.ensures.front)

pub returns-clause-along : goal.returns-clause-along
returns-clause-along g c =
    play-along g.B.Callback.counted g.B.Callback.told c.args.machine.ledger c.args.script.now c.new-player.result c.args.ears.now c.pass_over.new.ears c.play_from.new.ears c.new-player.ensures.player
    c.pass_over.ensures.begun c.pass_over.ensures.further c.pass_over.ensures.current c.in_ok-play_from.ensures.along

pub returns-in_err-play_from-clause-part : goal.returns-in_err-play_from-clause-part
returns-in_err-play_from-clause-part g c =
    on_err c.from_residual.result _
    (play-part g.B.Callback.counted g.B.Callback.told c.args.machine.ledger c.args.script.now c.new-player.result c.args.ears.now c.pass_over.new.ears c.play_from.new.ears c.new-player.ensures.player
    c.pass_over.ensures.begun c.pass_over.ensures.further c.pass_over.ensures.current c.in_err-play_from.ensures.part)
