use Rattle.std.proofs.Common.{◌≡◌, ◌++◌, map, take, drop}
use Rattle.drmaa_model.specs.RecordedCalls.{recorded_limit}
use Rattle.drmaa_machine.proofs.recorded_calls.record_limits.Given as goal

abbrev pub invariant-loop-limit : goal.invariant-loop-limit
invariant-loop-limit l = l.limit-items ≡ map recorded_limit (take l.limit-index l.initial.limit-items) ++ drop l.limit-index l.initial.limit-items
