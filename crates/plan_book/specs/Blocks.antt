-- The rows in order of number, in blocks of so many numbers each: our profile.
use Rattle.std.specs.Prelude.{◌≡◌, ℕ, suc, ◌<◌, ◌≤◌, true, List, [], ◌∷◌, length, take, vec_capacity}
use Rattle.std.specs.Global.{Vec}
use Rattle.std.specs.List.{AllByRecursion, flat_map}
use Rattle.drmaa_model.specs.declared.rows.Row.{Row}
use Rattle.drmaa_model.specs.Fit.{IsRising, number_of}
use Rattle.plan_book.specs.Quiet.{block_of}
use Rattle.plan_book.specs.Settled.{is_settled}
use Rattle.plan_book.specs.declared.rows.Places.{Places}

-- the rows of all blocks
abbrev pub rows_in : List (Vec Row) → List Row
rows_in blocks = flat_map (λ (block : Vec Row). block.items) blocks

-- a block has rows of its own numbers alone, in order; where jobs still come in, which is from one block on, it has room for all of them
pub record IsBlock (from k : ℕ) (block : Vec Row) : Type 0 where
  pub own : AllByRecursion (λ (row : Row). block_of row.job.0 ≡ k) block.items
  pub rising : IsRising number_of block.items
  pub room : from ≤ k → 64 ≤ vec_capacity block

-- they are the blocks from number k on
abbrev pub AreBlocks : ℕ → ℕ → List (Vec Row) → Type 0
AreBlocks from k [] = Unit {0}
AreBlocks from k (block ∷ blocks) = IsBlock from k block × AreBlocks from (suc k) blocks

-- one of these blocks, which are given by their places
abbrev pub IsInside : Places → ℕ → Type 0
IsInside blocks k = (blocks.from ≤ k) × (k < blocks.until)

-- the jobs of the first n blocks are settled
pub record AreFrontSettled (n : ℕ) (blocks : List (Vec Row)) : Type 0 where
  pub within : n ≤ length blocks
  pub settled : AllByRecursion (λ (row : Row). is_settled row ≡ true) (rows_in (take n blocks))

-- what is seen of the kept jobs: their rows, and the blocks of numbers of which there is room for all
pub record KeptRows : Type 0 where
  pub items : List Row
  pub seats : Places
