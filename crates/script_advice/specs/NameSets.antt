-- Names that are gathered from lines.
use Rattle.std.specs.Prelude.{◌≡◌, ℕ, ◌||◌, Bool, List}
use Rattle.std.specs.List.{list_any}
use Rattle.std.specs.Str.{bytes_eq}
use Rattle.script_text.specs.Names.{is_there}

-- the name is among these
abbrev pub is_among : List (List ℕ) → List ℕ → Bool
is_among names name = list_any (bytes_eq name) names

-- a set of names
abbrev pub Set : Type 0
Set = List (List ℕ × Unit {0})

-- a set has what another has, and these names
pub record Extends (old new : Set) (more : List (List ℕ)) : Type 0 where
  pub each : (name : List ℕ) → is_there new name ≡ (is_there old name || is_among more name)

-- of names that are put into a set one after the other: those that are left, with what the set has now, are all with what it had
pub record Fills (old now : Set) (left all : List (List ℕ)) : Type 0 where
  pub each : (name : List ℕ) → (is_there now name || is_among left name) ≡ (is_there old name || is_among all name)
