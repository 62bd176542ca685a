-- Numbers that are joined.
use Rattle.std.specs.Prelude.{ℕ, List, ◌++◌, Option, Some, None}

-- numbers in front, where there are those behind
abbrev pub joined : List ℕ → Option (List ℕ) → Option (List ℕ)
joined xs None = None
joined xs (Some ys) = Some (xs ++ ys)
