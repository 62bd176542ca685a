use Rattle.std.proofs.Common.{[], IfOk, OnErr, refl, subst}
use Rattle.std.proofs.lemmas.Result.{on_err_weaker}
use Rattle.drmaa_model.specs.History.{Ledger, now_of}
use Rattle.script_asks.specs.Plays.{serial_play, serial_play_from}
use Rattle.change_callbacks.specs.Places.{registrations_of}
use Rattle.script_play.specs.Along.{along_play, histories, HeardPlay, HeardPlayPart}
use Rattle.script_play.specs.Callbacks.{HaveFrontAfter}
use Rattle.script_play.specs.View.{start_of}
use Rattle.script_play.proofs.Along.{part-none}
use Rattle.script_play.proofs.Fronts.{front-first, front-none, on_err}
use Rattle.script_play.proofs.serial.play.Goals as goal

-- no machine was made
pub returns-in_err-machine-clause-front : goal.returns-in_err-machine-clause-front
returns-in_err-machine-clause-front g c =
    on_err c.from_residual.result _ (front-first g.B.Callback.counted g.B.Callback.told c.args.script.now.config (serial_play c.args.script.now).entries c.args.ears.now c.requires.silent c.requires.unheard)

-- the machine had served nothing
pub returns-clause-front : goal.returns-clause-front
returns-clause-front g c =
    let none : Ledger = record { config = c.args.script.now.config; history = [] } in
    on_err_weaker c.play_on.result
    (front-none g.B.Callback.counted g.B.Callback.told none.config (start_of none) (serial_play c.args.script.now).entries c.play_on.new.ears refl)
    (subst (λ (l : Ledger). OnErr c.play_on.result (HaveFrontAfter g.B.Callback.counted g.B.Callback.told l.config (start_of l) (serial_play_from (now_of l) c.args.script.now).entries c.play_on.new.ears)) c.in_ok-machine.ensures c.play_on.ensures.front)

-- no line was played
pub returns-in_err-machine-clause-part : goal.returns-in_err-machine-clause-part
returns-in_err-machine-clause-part g c =
    let none : Ledger = record { config = c.args.script.now.config; history = [] } in
    on_err c.from_residual.result _
    (part-none g.B.Callback.counted g.B.Callback.told (registrations_of none.config none.history) none.config (histories none.history (along_play (now_of none) c.args.script.now)) c.args.ears.now)

pub returns-clause-along : goal.returns-clause-along
returns-clause-along g c =
    subst (λ (l : Ledger). IfOk c.play_on.result (λ _. HeardPlay g.B.Callback.counted g.B.Callback.told l c.args.script.now c.args.ears.now c.play_on.new.ears)) c.in_ok-machine.ensures c.play_on.ensures.along

pub returns-clause-part : goal.returns-clause-part
returns-clause-part g c =
    subst (λ (l : Ledger). OnErr c.play_on.result (HeardPlayPart g.B.Callback.counted g.B.Callback.told l c.args.script.now c.args.ears.now c.play_on.new.ears)) c.in_ok-machine.ensures c.play_on.ensures.part
