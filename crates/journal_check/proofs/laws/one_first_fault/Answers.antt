use Rattle.journal_check.specs.FaultLaws.{one_fault}
use Rattle.journal_check.proofs.laws.one_first_fault.Goals as goal

pub returns : goal.returns
returns c = λ config entries n m given other machine own a b. one_fault config entries n m given other machine own a b
