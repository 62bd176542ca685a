use Rattle.turn_lock.specs.Tokens.{IsFree}
use Rattle.sharing_tests.proofs.histories.ask_often.Given as goal

abbrev pub invariant-loop : goal.invariant-loop
invariant-loop g l = IsFree l.shared l.client
