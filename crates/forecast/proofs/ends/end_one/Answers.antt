use Rattle.std.proofs.Common.{refl}
use Rattle.forecast.specs.RunLaws.{end-found, pass-found}
use Rattle.forecast.proofs.ends.end_one.Goals as goal

pub returns-then-found : goal.returns-then-found
returns-then-found c = record {
  ends = λ first foretold ending.
      (let e = c.apply-answer.ensures in
      end-found c.args.at c.args.from.0 first c.args.machine.now.ledger c.apply-answer.new.self.ledger foretold c.args.found.now c.apply-answer.result ending c.requires c.if-found.true (e.reports refl) e.step e.entry);
}

pub returns-else-found : goal.returns-else-found
returns-else-found c = record { ends = λ first foretold ending. pass-found c.args.at c.args.from.0 first c.args.machine.now.ledger foretold c.args.found.now ending c.requires c.if-found.false }
