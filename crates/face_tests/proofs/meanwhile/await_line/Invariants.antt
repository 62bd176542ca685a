use Rattle.turn_lock.specs.Tokens.{IsFree}
use Rattle.face_tests.proofs.meanwhile.await_line.Given as goal

-- who looks holds no turn
abbrev pub invariant-loop : goal.invariant-loop
invariant-loop l = IsFree l.desk.shared.now l.desk.client
