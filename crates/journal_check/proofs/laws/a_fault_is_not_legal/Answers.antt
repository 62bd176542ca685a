use Rattle.journal_check.specs.FaultLaws.{fault_not_legal}
use Rattle.journal_check.proofs.laws.a_fault_is_not_legal.Goals as goal

pub returns : goal.returns
returns c = λ config entries n given machine f legal. fault_not_legal config entries n given machine f legal
