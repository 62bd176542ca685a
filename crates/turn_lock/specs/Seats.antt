-- What the seat of a pass, a note and an opener always meets. Our profile.
use Rattle.std.specs.Prelude.{◌≡◌, ℕ, ◌+◌, ◌≤◌, List, [], ◌∷◌, length, Option, None}
use Rattle.atomic_table.specs.declared.shared.Seat.{Seat}
use Rattle.turn_lock.specs.declared.views.View.{View}
use Rattle.turn_lock.specs.declared.views.Kind.TheVariants.{Opener, Note, Caller}
use Rattle.turn_lock.specs.declared.views.Stage.{Stage}
use Rattle.turn_lock.specs.declared.views.Stage.TheVariants.{Idle, Waiting, Turn}
use Rattle.turn_lock.specs.Histories.{of, left_of}

-- the slot is in hand exactly in a turn, and then it is empty
abbrev pub InHand : {V : Type 0} → Stage → List (ℕ × Option V) → Type 0
InHand Idle hand = hand ≡ []
InHand (Waiting ticket) hand = hand ≡ []
InHand (Turn ticket) hand = hand ≡ (0, None) ∷ []

module _ {V Ask Answer Fixed : Type 0} (seat : Seat (Option V) (View Ask Answer Fixed)) where
  pub record IsPass (number : ℕ) : Type 0 where
    pub kind : seat.me.0.kind ≡ Caller
    pub number_is : seat.me.0.number ≡ number
    pub hand : InHand seat.me.0.stage seat.me.1
    pub own : of seat.me.0.seen seat.me.0.number ≡ seat.me.0.mine

  pub record IsNote : Type 0 where
    pub kind : seat.me.0.kind ≡ Note
    pub hand : seat.me.1 ≡ []

  pub record IsOpener (next gone : ℕ) : Type 0 where
    pub kind : seat.me.0.kind ≡ Opener
    pub hand : seat.me.1 ≡ []
    pub next_is : length seat.me.0.retired ≡ next
    pub gone_is : seat.me.0.gone ≡ gone
    pub counted : left_of seat.me.0.retired + seat.me.0.gone ≡ length seat.me.0.retired
    pub clean : (number : ℕ) → length seat.me.0.retired ≤ number → of seat.me.0.seen number ≡ []
