-- What contracts see of a desk beside its machine. Our profile.
use Rattle.std.specs.Prelude.{◌≡◌, ℕ, List, [], ◌∷◌, ◌++◌, Option, Some, None}
use Rattle.drmaa_types.specs.Readings.{Readings}
use Rattle.call_history.specs.declared.desks.Desk.{Desk}
use Rattle.call_history.specs.Clients.{Seat}
use Rattle.call_history.specs.Clocks.{Dial, dial}

-- its client and its clock
pub record Post : Type 0 where
  pub client : Seat
  pub clock : Dial

abbrev pub post : {C : Type 0} → (C → Readings) → (C → ℕ) → Desk C → Post
post given least desk = record { client = desk.client; clock = dial (given desk.clock) (least desk.clock) }

-- the last reading of a clock, where it tells them
abbrev pub EndsWith : Option (List ℕ) → ℕ → Type 0
EndsWith None last = Unit {0}
EndsWith (Some readings) last = (front : List ℕ) × (readings ≡ front ++ last ∷ [])
