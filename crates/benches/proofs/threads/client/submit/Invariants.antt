use Rattle.turn_lock.specs.Tokens.{IsFree}
use Rattle.benches.proofs.threads.client.submit.Given as goal

abbrev pub invariant-loop-number : goal.invariant-loop-number
invariant-loop-number g l = IsFree l.desk.shared.now l.desk.client
