-- Whole numbers: our profile.
use Rattle.std.specs.Prelude.{ℕ, zero, suc, ◌<◌, ℤ, pos, negsuc, List, ◌∷◌, Option, Some, None, decimal, codes}
use Rattle.text_codec.specs.Formats.{Format, ◌>>=◌, choose, strip, worded, number_of}

-- a number, or a sign and a number other than 0
abbrev pub signed : ℤ → List ℕ
signed (pos n) = decimal n
signed (negsuc n) = 45 ∷ decimal (suc n)

-- from the negative bound on, and below the bound
abbrev pub Within : ℕ → ℤ → Type 0
Within bound (pos n) = n < bound
Within bound (negsuc n) = n < bound

-- the negative of a number other than 0
abbrev pub negative : ℕ → Option ℤ
negative zero = None
negative (suc n) = Some (negsuc n)

-- the whole number that a word spells
unfoldable pub integer_of : ℕ → List ℕ → Option ℤ
integer_of bound w = choose (strip (codes "-") w) (λ d. number_of (suc bound) d >>= negative) (number_of bound w >>= λ n. Some (pos n))

unfoldable pub integer : ℕ → Format ℤ
integer bound = worded signed (Within bound) (integer_of bound)
