use Rattle.std.proofs.Common.{ℕ, map}
use Rattle.drmaa_model.specs.Controlling.{control_step}
use Rattle.plan_book.specs.Blocks.{AreBlocks}
use Rattle.plan_book.proofs.BlockRows.{Upto}
use Rattle.plan_book.proofs.blocks.control_rows.Given as goal

-- the blocks so far are done
abbrev pub invariant-loop-block : goal.invariant-loop-block
invariant-loop-block l = record {
  are : (from k : ℕ) → AreBlocks from k l.fn.blocks → AreBlocks from k l.blocks;
  upto : Upto (map (control_step l.moment l.target l.what)) 0 l.block l.fn.blocks l.blocks;
}
