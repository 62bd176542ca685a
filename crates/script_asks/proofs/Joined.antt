-- Numbers that are joined.
use Rattle.std.proofs.Common.{◌≡◌, ℕ, List, [], ◌∷◌, ◌++◌, Option, Some, None, refl, ap, append_assoc, append-nil}
use Rattle.text_codec.specs.Formats.{◌>>=◌}
use Rattle.script_asks.specs.Numbers.{joined}

pub joined_none : (o : Option (List ℕ)) → joined [] o ≡ o
joined_none None = refl
joined_none (Some xs) = refl

pub joined_more : (xs : List ℕ) (n : ℕ) (o : Option (List ℕ)) → joined (xs ++ n ∷ []) o ≡ joined xs (o >>= λ ns. Some (n ∷ ns))
joined_more xs n None = refl
joined_more xs n (Some ys) = ap Some (append_assoc xs (n ∷ []) ys)

pub joined_end : (xs : List ℕ) → joined xs (Some []) ≡ Some xs
joined_end xs = ap Some (append-nil xs)
