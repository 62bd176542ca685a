-- Histories: which entries are a caller's, and what it means that one goes on from another. Our profile.
use Rattle.std.specs.Prelude.{◌≡◌, ◌≢◌, ℕ, ◌==◌, nat_le, List, [], ◌∷◌, ◌++◌, length, cond, Option, Some, None, suc}
use Rattle.std.specs.List.{filter}
use Rattle.drmaa_types.specs.declared.chronicles.ChronicleEntry.{ChronicleEntry}

-- the entries of this caller, in order
abbrev pub of : {Ask Answer : Type 0} → List (ChronicleEntry Ask Answer) → ℕ → List (ChronicleEntry Ask Answer)
of entries number = filter (λ e. e.caller.0 == number) entries

-- the list begins with this one
pub record BeginsWith {A : Type 0} (list start : List A) : Type 0 where
  pub rest : List A
  pub whole : list ≡ start ++ rest

-- the list is legal, unless it is empty
pub record IsLegalSoFar {A : Type 0} (legal : List A → Type 0) (list : List A) : Type 0 where
  pub holds : list ≢ [] → legal list

-- the longer of two lists
abbrev pub longer : {A : Type 0} → List A → List A → List A
longer a b = cond (nat_le (length b) (length a)) a b

-- how many places are still empty
abbrev pub left_of : {A : Type 0} → List (Option A) → ℕ
left_of [] = 0
left_of (None ∷ places) = suc (left_of places)
left_of (Some a ∷ places) = left_of places
