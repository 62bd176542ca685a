-- Byte strings in one buffer, cut at the places where they end.
use Rattle.std.specs.Prelude.{◌≡◌, ℕ, zero, suc, ◌+◌, ◌-◌, List, [], ◌∷◌, length, take, drop, get_or}
use Rattle.std.specs.List.{concat}

-- the strings that end at these places of the bytes, the first of them from this place on
abbrev pub cut : ℕ → List ℕ → List ℕ → List (List ℕ)
cut from bytes [] = []
cut from bytes (e ∷ es) = take (e - from) bytes ∷ cut e (drop (e - from) bytes) es

-- where strings end that stand behind each other from this place on
abbrev pub ends_of : ℕ → List (List ℕ) → List ℕ
ends_of from [] = []
ends_of from (x ∷ xs) = (from + length x) ∷ ends_of (from + length x) xs

-- where a string begins: where the one before it ends
abbrev pub beginning : List ℕ → ℕ → ℕ
beginning ends zero = 0
beginning ends (suc place) = get_or ends place 0

-- the strings are all of the bytes, and end at these places
pub record IsPacked (bytes ends : List ℕ) : Type 0 where
  pub all : concat (cut 0 bytes ends) ≡ bytes
  pub ends_there : ends_of 0 (cut 0 bytes ends) ≡ ends
