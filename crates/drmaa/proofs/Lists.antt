-- Lists of desks.
use Rattle.std.proofs.Common.{◌≡◌, List, [], ◌∷◌, set, length, slice_index_or, refl, arith}

module _ {X : Type 0} where
  -- the first of a list of one, with another in its place
  pub first-set : (xs : List X) (x d : X) → length xs ≡ 1 → slice_index_or (set xs 0 x) 0 d ≡ x
  first-set [] x d one = absurd (omega arith)
  first-set (y ∷ ys) x d one = refl

  -- its first, whatever stands for what is not there
  pub first-any : (xs : List X) (d e : X) → length xs ≡ 1 → slice_index_or xs 0 d ≡ slice_index_or xs 0 e
  first-any [] d e one = absurd (omega arith)
  first-any (x ∷ xs) d e one = refl
