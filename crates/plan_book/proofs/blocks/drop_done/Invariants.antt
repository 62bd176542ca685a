use Rattle.std.proofs.Common.{ℕ, filter, not, ◌&&◌}
use Rattle.drmaa_model.specs.declared.rows.Row.{Row}
use Rattle.drmaa_model.specs.Controlling.{is_done}
use Rattle.drmaa_model.specs.Targets.{is_meant}
use Rattle.plan_book.specs.Blocks.{AreBlocks}
use Rattle.plan_book.proofs.BlockRows.{Upto}
use Rattle.plan_book.proofs.blocks.drop_done.Given as goal

-- the blocks so far are done
abbrev pub invariant-loop-block : goal.invariant-loop-block
invariant-loop-block l = record {
  are : (from k : ℕ) → AreBlocks from k l.fn.blocks → AreBlocks from k l.blocks;
  upto : Upto (filter (λ (row : Row). not (is_meant l.target row && is_done row))) 0 l.block l.fn.blocks l.blocks;
}
