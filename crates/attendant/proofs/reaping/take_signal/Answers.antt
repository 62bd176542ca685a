use Rattle.attendant.proofs.Desks.{takes_signal, serves_signal, no_signal}
use Rattle.attendant.specs.Posts.{post}
use Rattle.attendant.proofs.reaping.take_signal.Goals as goal

pub unreachable-requires : goal.unreachable-requires
unreachable-requires g c = no_signal _ c.in-Ok.reply _ _ (cc) c.in-Ok.ensures.ok

pub returns-in-Some-clause-taken : goal.returns-in-Some-clause-taken
returns-in-Some-clause-taken g c = takes_signal _ c.in-Ok.reply c.in-Some.signal _ _ (cc) c.in-Ok.ensures.ok

pub returns-in-Some-clause-served : goal.returns-in-Some-clause-served
returns-in-Some-clause-served g c = serves_signal (post g.C.Clock.given g.C.Clock.least c.args.desk.now) (post g.C.Clock.given g.C.Clock.least c.ask.new.desk) c.in-Ok.reply c.in-Some.signal (cc) c.in-Ok.ensures.served
