use Rattle.std.proofs.Common.{◌≡◌}
use Rattle.turn_lock.specs.Tokens.{IsFree}
use Rattle.sharing_tests.proofs.one_clock.ask_often.Given as goal

-- the client holds no turn between two calls
abbrev pub invariant-loop : goal.invariant-loop
invariant-loop g l = (l.desk.shared.now ≡ l.fn.desk.shared.now) × IsFree l.fn.desk.shared.now l.desk.client
