use Rattle.script_play.proofs.Handing.{passed-over}
use Rattle.script_play.proofs.hearing.pass_over.Goals as goal

pub returns-clause-current : goal.returns-clause-current
returns-clause-current g c =
    let player = c.args.player.now in
    passed-over g.B.Callback.counted g.B.Callback.told player.ledger player.start c.args.ears.now c.hand_over.new.ears c.requires.legal c.requires.unplayed c.requires.silent c.hand_over.ensures.handed (c.hand_over.ensures.heard c.requires.unheard)
