use Rattle.script_play.proofs.Spelled.{playable}
use Rattle.script_play.proofs.laws.each_script_can_be_played.Goals as goal

pub returns : goal.returns
returns c = playable
