use Rattle.std.proofs.Common.{◌≡◌, ℕ, take, length}
use Rattle.plan_book.specs.Blocks.{AreBlocks, rows_in}
use Rattle.plan_book.proofs.RowsKept.{HaveRoom}
use Rattle.plan_book.proofs.blocks.make_room.Given as goal

-- the blocks so far have room
abbrev pub invariant-loop-block : goal.invariant-loop-block
invariant-loop-block l = record {
  are : (from : ℕ) → AreBlocks from 0 l.fn.blocks.items → AreBlocks from 0 l.blocks.items;
  rows : (n : ℕ) → rows_in (take n l.blocks.items) ≡ rows_in (take n l.fn.blocks.items);
  len : length l.blocks.items ≡ length l.fn.blocks.items;
  room : HaveRoom l.first l.block l.blocks.items;
}
