use Rattle.std.proofs.Common.{◌≡◌, ◌≤◌, ℕ, take, length}
use Rattle.plan_book.specs.Blocks.{AreBlocks, rows_in}
use Rattle.plan_book.specs.Quiet.{block_of}
use Rattle.plan_book.proofs.blocks.reach.Given as goal

abbrev pub invariant-loop : goal.invariant-loop
invariant-loop l = record {
  are : (from : ℕ) → AreBlocks from 0 l.fn.blocks.items → AreBlocks from 0 l.blocks.items;
  seats : (from : ℕ) → AreBlocks from 0 l.fn.blocks.items → AreBlocks (block_of l.first) 0 l.blocks.items;
  all : rows_in l.blocks.items ≡ rows_in l.fn.blocks.items;
  rows : (n : ℕ) → n ≤ length l.fn.blocks.items → rows_in (take n l.blocks.items) ≡ rows_in (take n l.fn.blocks.items);
  more : length l.fn.blocks.items ≤ length l.blocks.items;
  reached : l.counter ≤ length l.blocks.items;
}
