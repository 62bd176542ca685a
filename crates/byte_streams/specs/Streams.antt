-- What reads and writes say of the bytes of a whole stream: our profile.
use Rattle.std.specs.Prelude.{◌≡◌, ℕ, ◌<◌, ◌≤◌, Bool, true, false, length, take, List, ◌++◌, Option}
use Rattle.std.specs.Io.KnownBytes.{Appends}

-- These bytes are all that there were, and within the limit; or there were more, and these are the first ones up to the limit.
abbrev pub ReadsUpTo : ℕ → List ℕ → List ℕ → Bool → Type 0
ReadsUpTo limit all bytes true = (bytes ≡ all) × (length all ≤ limit)
ReadsUpTo limit all bytes false = (bytes ≡ take limit all) × (limit < length all)

-- Known bytes grow by a front of these bytes.
pub record AppendsFront (old new : Option (List ℕ)) (bytes : List ℕ) : Type 0 where
  pub front : List ℕ
  pub rest : List ℕ
  pub whole : bytes ≡ front ++ rest
  pub added : Appends old new front
