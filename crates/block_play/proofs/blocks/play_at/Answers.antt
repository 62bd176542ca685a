use Rattle.block_play.proofs.Made.{left-read, left-unread}
use Rattle.block_play.proofs.blocks.play_at.Goals as goal

pub returns-in-Ok : goal.returns-in-Ok
returns-in-Ok g c = λ line rest is.
    left-read g.C.Clock.given g.C.Clock.least c.args.script.now c.args.names _ line c.in-Ok.line rest _ c.args.desk.now c.play_line-left.new.desk c.play_line-left.result c.in-Ok.ensures is c.play_line-left.ensures

pub returns-in-Err : goal.returns-in-Err
returns-in-Err g c = λ line rest is. left-unread g.C.Clock.given g.C.Clock.least c.args.script.now c.args.names line c.args.desk.now c.requires.client
