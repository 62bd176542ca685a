use Rattle.std.proofs.Common.{ℕ, map}
use Rattle.drmaa_model.specs.declared.rows.Row.{Row}
use Rattle.drmaa_model.specs.Effects.{left_by}
use Rattle.plan_book.specs.Blocks.{AreBlocks}
use Rattle.plan_book.proofs.BlockRows.{Upto}
use Rattle.plan_book.proofs.blocks.leave_rows.Given as goal

-- the blocks so far are done
abbrev pub invariant-loop-block : goal.invariant-loop-block
invariant-loop-block l = record {
  are : (from k : ℕ) → AreBlocks from k l.fn.blocks → AreBlocks from k l.blocks;
  upto : Upto (map (λ (row : Row). record row { home = left_by l.home row.home })) 0 l.block l.fn.blocks l.blocks;
}
