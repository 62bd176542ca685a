use Rattle.attendant.proofs.Desks.{takes, serves_launch, no_launch}
use Rattle.attendant.specs.Posts.{post}
use Rattle.attendant.proofs.launching.take_launch.Goals as goal

pub unreachable-requires : goal.unreachable-requires
unreachable-requires g c = no_launch _ c.in-Ok.reply _ _ (cc) c.in-Ok.ensures.ok

pub returns-in-Some-clause-taken : goal.returns-in-Some-clause-taken
returns-in-Some-clause-taken g c = takes _ c.in-Ok.reply c.in-Some.launch _ _ (cc) c.in-Ok.ensures.ok

pub returns-in-Some-clause-served : goal.returns-in-Some-clause-served
returns-in-Some-clause-served g c = serves_launch (post g.C.Clock.given g.C.Clock.least c.args.desk.now) (post g.C.Clock.given g.C.Clock.least c.ask.new.desk) _ c.in-Ok.reply c.in-Some.launch _ _ (cc) c.in-Ok.ensures.ok c.in-Ok.ensures.served
