use Rattle.call_history.specs.ClientLaws.{begins-call}
use Rattle.call_history.specs.TimedLaws.{timed-call}
use Rattle.call_history.proofs.desks.Desk.call.Goals as goal

pub returns-clause-begins : goal.returns-clause-begins
returns-clause-begins g c =
    begins-call c.args.self.now.shared.now.fixed _ _ c.args.self.now.client c.call-served.new.client c.args.call c.call-served.result c.call-served.ensures.ok c.call-served.ensures.err

pub returns-clause-timed : goal.returns-clause-timed
returns-clause-timed g c = λ none.
    timed-call c.args.self.now.shared.now.fixed _ _ c.args.self.now.client c.call-served.new.client c.args.call c.call-served.result none c.call-served.ensures.ok c.call-served.ensures.err
