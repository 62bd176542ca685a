-- The word of `lint`: our profile.
use Rattle.std.specs.Prelude.{◌≡◌, ℕ, List, [], ◌∷◌, codes}

abbrev pub AsksForLint : List (List ℕ) → Type 0
AsksForLint words = words ≡ codes "lint" ∷ []
