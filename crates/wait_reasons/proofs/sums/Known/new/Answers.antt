use Rattle.std.proofs.Common.{◌≡◌, ℕ, zero, suc, true, List, [], ◌∷◌, Option, Some, None, not, is_some, refl}
use Rattle.std.specs.List.{list_all}
use Rattle.std.specs.Prelude.{replicate, slice_index_or}
use Rattle.wait_reasons.specs.declared.sums.Sum.{Sum}
use Rattle.wait_reasons.proofs.sums.Known.new.Goals as goal

none_made : (places : List (Option Sum)) → list_all (λ (o : Option Sum). not (is_some o)) places ≡ true → (place : ℕ) (made : Sum) → slice_index_or places place None ≡ Some made → ⊥
none_made [] all place made is = cc
none_made (Some s ∷ rest) all place made is = cc
none_made (None ∷ rest) all zero made is = cc
none_made (None ∷ rest) all (suc place) made is = none_made rest all place made is

pub returns : goal.returns
returns c = λ rows place made is. absurd (none_made (replicate 48 None) refl place made is)
