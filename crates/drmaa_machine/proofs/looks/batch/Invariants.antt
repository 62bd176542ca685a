use Rattle.std.proofs.Common.{◌≡◌, ◌≤◌, length, take}
use Rattle.drmaa_machine.proofs.looks.batch.Given as goal

abbrev pub invariant-loop-change : goal.invariant-loop-change
invariant-loop-change l = (l.batch ≡ take l.change-index l.change-items) × (length l.change-items ≤ 64)
