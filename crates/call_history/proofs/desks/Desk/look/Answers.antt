use Rattle.call_history.specs.TimedLaws.{timed-look}
use Rattle.call_history.proofs.desks.Desk.look.Goals as goal

pub returns-clause-timed : goal.returns-clause-timed
returns-clause-timed g c =
    timed-look c.args.self.now.shared.now.fixed _ _ c.args.self.now.client c.look.new.client c.args.question c.look.result c.look.ensures.answer
