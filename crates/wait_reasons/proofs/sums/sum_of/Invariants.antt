use Rattle.std.proofs.Common.{◌≡◌, take}
use Rattle.wait_reasons.specs.Sums.{sum_of}
use Rattle.wait_reasons.proofs.sums.sum_of.Given as goal

abbrev pub invariant-loop-row : goal.invariant-loop-row
invariant-loop-row l = l.sum ≡ sum_of l.share (take l.row-index l.rows)
