use Rattle.revival.specs.StoppingLaws.{end-found}
use Rattle.revival.proofs.ends.end_one.Goals as goal

pub returns : goal.returns
returns c = record {
  ends = λ first legal here stopping.
      (let e = c.apply-answer.ensures in
      let asked = c.end_of.ensures in
      end-found c.args.from.0 c.args.at first c.args.machine.now.ledger c.apply-answer.new.self.ledger c.args.found.now c.end_of.result c.apply-answer.result legal here stopping c.requires
      asked.call asked.recorded (e.reports asked.run) e.step e.entry);
}
