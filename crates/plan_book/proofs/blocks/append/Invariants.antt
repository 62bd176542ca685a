use Rattle.std.proofs.Common.{◌≡◌, ◌++◌, ◌<◌, ◌≤◌, ℕ, take, length}
use Rattle.std.specs.List.{AllByRecursion}
use Rattle.std.specs.Vec.Iter.{into_iter_items, into_iter_len}
use Rattle.drmaa_model.specs.declared.rows.Row.{Row}
use Rattle.plan_book.specs.Blocks.{AreBlocks, rows_in}
use Rattle.plan_book.specs.Quiet.{block_of}
use Rattle.plan_book.proofs.blocks.append.Given as goal

-- the rows so far have come in, before those that are left
abbrev pub invariant-loop-row : goal.invariant-loop-row
invariant-loop-row l = record {
  can : goal.iterator-loop-row.can_next l.row-iterator;
  finite : goal.iterator-loop-row.is_finite l.row-iterator;
  left : length (into_iter_items l.row-iterator) ≡ into_iter_len l.row-iterator;
  are : (from : ℕ) → AreBlocks from 0 l.fn.blocks.items → AreBlocks from 0 l.blocks.items;
  len : length l.blocks.items ≡ length l.fn.blocks.items;
  placed : rows_in l.blocks.items ++ into_iter_items l.row-iterator ≡ rows_in l.fn.blocks.items ++ l.fn.more.items;
  front : (n : ℕ) → AllByRecursion (λ (row : Row). n ≤ block_of row.job.0) l.fn.more.items → (take n l.blocks.items ≡ take n l.fn.blocks.items) × AllByRecursion (λ (row : Row). n ≤ block_of row.job.0) (into_iter_items l.row-iterator);
  seats : AllByRecursion (λ (row : Row). AreBlocks (block_of row.job.0) 0 l.fn.blocks.items) (into_iter_items l.row-iterator);
  room : AllByRecursion (λ (row : Row). block_of row.job.0 < length l.fn.blocks.items) (into_iter_items l.row-iterator);
}
