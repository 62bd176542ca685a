-- The first line of some bytes.
use Rattle.std.specs.Prelude.{ℕ, ◌==◌, List, [], ◌∷◌, Option, Some, None, if◌then◌else◌}

-- a byte in front of the line
abbrev pub onto_line : ℕ → Option (List ℕ × List ℕ) → Option (List ℕ × List ℕ)
onto_line b None = None
onto_line b (Some p) = Some (b ∷ p.0, p.1)

-- what stands before the first line feed, and behind it
abbrev pub first_line : List ℕ → Option (List ℕ × List ℕ)
first_line [] = None
first_line (b ∷ bs) = if b == 10 then Some ([], bs) else onto_line b (first_line bs)
