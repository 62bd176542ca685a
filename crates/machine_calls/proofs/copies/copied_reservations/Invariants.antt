use Rattle.std.proofs.Common.{◌≡◌, take}
use Rattle.machine_calls.proofs.copies.copied_reservations.Given as goal

abbrev pub invariant-loop-info : goal.invariant-loop-info
invariant-loop-info l = l.copy.items ≡ take l.info-index l.listed
