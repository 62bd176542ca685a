use Rattle.std.proofs.Common.{◌≡◌}
use Rattle.turn_lock.specs.Tokens.{IsFree}
use Rattle.face_tests.proofs.steps.take_steps.Given as goal

-- the user is still at its machine, and holds no turn
abbrev pub invariant-loop-step : goal.invariant-loop-step
invariant-loop-step g l = record {
  client : IsFree l.desk.shared.now l.desk.client;
  shared : l.desk.shared.now ≡ l.fn.desk.shared.now;
}
