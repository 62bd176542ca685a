-- What a spawner tells: our profile.
use Rattle.std.specs.Prelude.{◌≡◌, ℕ, ◌-◌, List, [], ◌∷◌, ◌++◌, Option, Some, None, unwrap_or, slice_get}
use Rattle.drmaa_types.specs.declared.states.Exit.TheVariants.{Code}
use Rattle.child_spawner.specs.declared.fates.Asked.{Asked}
use Rattle.child_spawner.specs.declared.fates.Fate.{Fate}

-- Where a spawner tells what was asked of it after a start, it told it before, and the start added this item.
abbrev pub Asks : Option (List Asked) → Asked → Option (List Asked) → Type 0
Asks before item None = Unit {0}
Asks (Some before) item (Some after) = after ≡ before ++ item ∷ []
Asks None item (Some after) = ⊥

-- the fate of a start beyond a list of fates: it ends at once, with code 0
abbrev pub plain_fate : Fate
plain_fate = record { polls = 0; exit = Code 0; failing_poll = None; failing_signal = None }

-- the fate of the start with this number, counted from 1
abbrev pub fate_of : List Fate → ℕ → Fate
fate_of fates start = unwrap_or (slice_get fates (start - 1)) plain_fate
