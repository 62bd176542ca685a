use Rattle.std.proofs.Common.{◌-◌, length}
use Rattle.plan_book.specs.Blocks.{AreFrontSettled}
use Rattle.plan_book.proofs.block_walks.settled_from.Given as goal

abbrev pub invariant-loop-settled : goal.invariant-loop-settled
invariant-loop-settled l = AreFrontSettled l.settled l.blocks

abbrev pub decreases-loop-settled : goal.decreases-loop-settled
decreases-loop-settled l = length l.blocks - l.settled
