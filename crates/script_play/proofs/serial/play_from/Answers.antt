use Rattle.std.proofs.Common.{subst}
use Rattle.std.proofs.lemmas.Result.{on_err_weaker}
use Rattle.script_play.specs.Callbacks.{AreCurrentAfter}
use Rattle.script_asks.specs.Plays.{Playing}
use Rattle.script_play.specs.Along.{after_block_lines, histories, HeardAlong, HeardPart}
use Rattle.script_play.specs.Served.{IsServed}
use Rattle.script_play.specs.View.{Start, View}
use Rattle.script_play.proofs.Whole.{opens, served, noted_first, whole_front, made_ok, made_err, both_ok}
use Rattle.script_play.proofs.serial.play_from.Goals as goal

pub play_blocks-done-requires-clause-noted : goal.play_blocks-done-requires-clause-noted
play_blocks-done-requires-clause-noted g c = noted_first c.args.player c.requires.new

pub returns-clause-served : goal.returns-clause-served
returns-clause-served g c =
    made_ok c.play_blocks-done.result c.unless_failed.result c.play_blocks-done.new.player _ (λ (v : View). IsServed c.args.player.ledger c.args.script.now v) c.unless_failed.ensures c.play_blocks-done.ensures.played
    (served c.args.script.now c.args.player c.play_blocks-done.new.player c.requires.new)

pub returns-clause-current : goal.returns-clause-current
returns-clause-current g c =
    let now = c.play_blocks-done.new.player in
    made_ok c.play_blocks-done.result c.unless_failed.result now _ (λ (v : View). AreCurrentAfter g.B.Callback.counted g.B.Callback.told c.args.player.start.callbacks v.ledger c.play_blocks-done.new.ears) c.unless_failed.ensures
    (both_ok c.play_blocks-done.result _ _ c.play_blocks-done.ensures.played c.play_blocks-done.ensures.current)
    (λ both. subst (λ (start : Start). AreCurrentAfter g.B.Callback.counted g.B.Callback.told start.callbacks now.ledger c.play_blocks-done.new.ears) both.0.start both.1)

pub returns-clause-front : goal.returns-clause-front
returns-clause-front g c =
    made_err c.play_blocks-done.result c.unless_failed.result c.play_blocks-done.new.player _ c.unless_failed.ensures
    (on_err_weaker c.play_blocks-done.result (whole_front g.B.Callback.counted g.B.Callback.told c.args.script.now c.args.player c.play_blocks-done.new.ears c.requires.new) c.play_blocks-done.ensures.front)

pub returns-clause-along : goal.returns-clause-along
returns-clause-along g c =
    let v = c.args.player in
    made_ok c.play_blocks-done.result c.unless_failed.result c.play_blocks-done.new.player _ _ c.unless_failed.ensures c.play_blocks-done.ensures.along
    (λ h. subst (λ (p : Playing). HeardAlong g.B.Callback.counted g.B.Callback.told v.start.callbacks v.ledger.config (histories v.start.entries (after_block_lines c.args.script.now p)) c.args.ears.now c.play_blocks-done.new.ears) (opens v c.requires.new) h)

pub returns-clause-part : goal.returns-clause-part
returns-clause-part g c =
    let v = c.args.player in
    made_err c.play_blocks-done.result c.unless_failed.result c.play_blocks-done.new.player _ c.unless_failed.ensures
    (on_err_weaker c.play_blocks-done.result
    (λ h. subst (λ (p : Playing). HeardPart g.B.Callback.counted g.B.Callback.told v.start.callbacks v.ledger.config (histories v.start.entries (after_block_lines c.args.script.now p)) c.args.ears.now c.play_blocks-done.new.ears) (opens v c.requires.new) h) c.play_blocks-done.ensures.part)
