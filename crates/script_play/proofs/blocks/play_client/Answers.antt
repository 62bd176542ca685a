use Rattle.std.proofs.Common.{refl}
use Rattle.script_asks.specs.Plays as plays
use Rattle.script_play.specs.Crews.{crew_meant}
use Rattle.script_play.specs.View.{playing}
use Rattle.script_play.proofs.Fronts.{front-of, lines-begin, on_err}
use Rattle.script_play.proofs.blocks.play_client.Goals as goal

pub returns-in_err-copied-clause-front : goal.returns-in_err-copied-clause-front
returns-in_err-copied-clause-front g c =
    let now = c.args.player.now in
    let first : plays.Playing = record (playing now) { names = c.args.names.now } in
    on_err c.from_residual.result _ (front-of g.B.Callback.counted g.B.Callback.told now now.ledger.config now.start (plays.play_lines c.args.script.now (crew_meant c.args.crew) first c.args.block.now).entries c.args.ears.now
    c.requires.noted c.requires.current refl refl (lines-begin c.args.script.now (crew_meant c.args.crew) first c.args.block.now))
