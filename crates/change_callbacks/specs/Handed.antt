-- What was handed over so far: our profile.
use Rattle.std.specs.Prelude.{ℕ, ◌+◌, List, [], ◌∷◌, ◌++◌, Option, Some, None}
use Rattle.drmaa_types.specs.declared.changes.Change.{Change}

-- how many changes, and the changes
pub record HandedOver : Type 0 where
  pub count : ℕ
  pub changes : List Change

-- nothing where nothing stands before, and else one change more
abbrev pub one_more : Option HandedOver → Change → HandedOver
one_more None change = record { count = 0; changes = [] }
one_more (Some before) change = record { count = before.count + 1; changes = before.changes ++ change ∷ [] }
