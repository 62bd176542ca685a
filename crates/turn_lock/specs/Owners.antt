-- What a state of the table that meets the rule says of turns and tickets. Our profile.
use Rattle.std.specs.Prelude.{◌≡◌, ℕ, [], ◌∷◌, slice_index}
use mathlib.Core.Option.{none, some}
use lib.ListN.{get_elem?}
use Rattle.atomic_table.specs.Table.{State}
use Rattle.turn_lock.specs.declared.views.View.{View}
use Rattle.turn_lock.specs.declared.views.Stage.TheVariants.{Turn}
use Rattle.turn_lock.specs.Rule.{HasTicket, Sits}

module _ {S Ask Answer Fixed : Type 0} (s : State S (View Ask Answer Fixed)) where
  -- two turns are one: the same seat with the same ticket, which is the next to be served, and the value is out
  pub record IsOneTurn (seat other ticket another : ℕ) : Type 0 where
    pub seat_is : seat ≡ other
    pub ticket_is : ticket ≡ another
    pub next : slice_index s.words 2 ≡ ticket
    pub away : s.homes ≡ none ∷ []

  -- no two views are in turn
  abbrev pub HasOneTurn : Type 0
  HasOneTurn = (seat other ticket another : ℕ) (v w : View Ask Answer Fixed) → get_elem? s.views seat ≡ some v → get_elem? s.views other ≡ some w
      → v.stage ≡ Turn ticket → w.stage ≡ Turn another → IsOneTurn seat other ticket another

  -- no two views have the same ticket, waiting or in turn
  abbrev pub HasOneOwner : Type 0
  HasOneOwner = (seat other ticket : ℕ) (v w : View Ask Answer Fixed) → get_elem? s.views seat ≡ some v → get_elem? s.views other ≡ some w
      → HasTicket ticket v → HasTicket ticket w → seat ≡ other

  -- where the value is out, some view is in turn
  abbrev pub IsWithTurn : Type 0
  IsWithTurn = s.homes ≡ none ∷ [] → (seat : ℕ) × Sits s.views seat (λ v. v.stage ≡ Turn (slice_index s.words 2))
