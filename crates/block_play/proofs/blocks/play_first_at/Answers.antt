use Rattle.block_play.proofs.Made.{left-read, left-unread}
use Rattle.block_play.proofs.blocks.play_first_at.Goals as goal

pub returns-in-Ok-clause-line : goal.returns-in-Ok-clause-line
returns-in-Ok-clause-line g c = λ line rest is.
    left-read g.C.Clock.given g.C.Clock.least c.args.script.now c.args.names _ line c.in-Ok.line rest _ c.args.desk.now c.play_first_line-left.new.desk c.play_first_line-left.result c.in-Ok.ensures is c.play_first_line-left.ensures.line

pub returns-in-Err-clause-line : goal.returns-in-Err-clause-line
returns-in-Err-clause-line g c = λ line rest is. left-unread g.C.Clock.given g.C.Clock.least c.args.script.now c.args.names line c.args.desk.now c.requires.client
