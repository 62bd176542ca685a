use Rattle.forecast.specs.RunLaws.{launched-found, launched-grows, nothing-found, full-found}
use Rattle.forecast.proofs.launches.launch_one.Goals as goal

pub returns-clause-launched : goal.returns-clause-launched
returns-clause-launched c = λ start is first foretold ended.
    (let e = c.apply-answer.ensures in
    launched-found c.args.at first c.args.machine.now.ledger c.apply-answer.new.self.ledger foretold start c.apply-answer.result ended (c.told_of.ensures.launched start is) e.step e.entry)

pub returns-clause-nothing : goal.returns-clause-nothing
returns-clause-nothing c = λ is first foretold ended.
    (let e = c.apply-answer.ensures in
    nothing-found c.args.at first c.args.machine.now.ledger c.apply-answer.new.self.ledger foretold c.apply-answer.result ended (c.told_of.ensures.nothing is) (e.finds_nothing).0 e.err)

pub returns-clause-full : goal.returns-clause-full
returns-clause-full c = λ n is first foretold ended.
    full-found c.args.at n first c.args.machine.now.ledger foretold ended (c.apply-answer.ensures.full n (c.told_of.ensures.full n is))

pub returns-clause-grows : goal.returns-clause-grows
returns-clause-grows c = λ start is.
    launched-grows c.args.at c.args.machine.now.ledger c.apply-answer.new.self.ledger start c.apply-answer.result (c.told_of.ensures.launched start is) c.apply-answer.ensures.entry
