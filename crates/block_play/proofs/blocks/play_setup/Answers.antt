use Rattle.call_history.specs.Clients.{mine_of}
use Rattle.block_play.proofs.Made.{played-none}
use Rattle.block_play.proofs.blocks.play_setup.Goals as goal

pub returns-in-None-clause-ok : goal.returns-in-None-clause-ok
returns-in-None-clause-ok g c = played-none c.args.script.now c.new.result (mine_of c.args.desk.now.client) _ c.in-None.is c.new.ensures
