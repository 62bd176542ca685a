-- What a search has found that there is no room for.
use Rattle.std.specs.Prelude.{◌≡◌, ℕ, ◌≤◌, false, Option, Some, None, IfSome}
use Rattle.drmaa_model.specs.Load.{bound_of, fits}
use Rattle.drmaa_model.specs.Plan.{Plan}
use Rattle.scheduler_core.specs.declared.demands.Demand.{Demand}
use Rattle.scheduler_core.specs.Launches.{seen}

-- what is remembered, if anything, does not fit from this moment on
abbrev pub IsUnmet : ℕ → Plan → Option Demand → Type 0
IsUnmet moment p unmet = IfSome unmet (λ (d : Demand). fits (seen moment p) d.slots moment d.until ≡ false)

-- it asks for no less than what is remembered
abbrev pub IsBeyond : Option Demand → Demand → Type 0
IsBeyond None demand = ⊥
IsBeyond (Some least) demand = (least.slots ≤ demand.slots) × (bound_of least.until ≤ bound_of demand.until)
