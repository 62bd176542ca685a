use Rattle.std.proofs.Common.{◌≡◌}
use Rattle.attendant_tests.proofs.playing.take_steps.Given as goal

-- the three are at the same machine
abbrev pub invariant-loop-step : goal.invariant-loop-step
invariant-loop-step g l = l.stage ≡ l.fn.stage
