use Rattle.std.proofs.Common.{take}
use Rattle.plan_book.specs.Sums.{AreSums}
use Rattle.plan_book.proofs.sums.sums_of.Given as goal

abbrev pub invariant-loop-row : goal.invariant-loop-row
invariant-loop-row l = AreSums (take l.row-index l.rows) l.sums
