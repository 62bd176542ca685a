-- What each step tells the seat that makes it: the seat before, the number found, the seat after. Our profile.
use Rattle.std.specs.Prelude.{◌≡◌, ◌≢◌, ℕ, ◌+◌, ◌<◌, ◌≤◌, List, [], ◌∷◌, length, Option, Some, None, slice_index_or}
use Rattle.atomic_table.specs.Table.{Me, rest}
use Rattle.drmaa_types.specs.declared.chronicles.ChronicleEntry.{ChronicleEntry}
use Rattle.turn_lock.specs.declared.views.View.{View}
use Rattle.turn_lock.specs.declared.views.Kind.{Kind}
use Rattle.turn_lock.specs.declared.views.Kind.TheVariants.{Spent, Note, Opener, Caller}
use Rattle.turn_lock.specs.declared.views.Stage.TheVariants.{Waiting, Turn}
use Rattle.turn_lock.specs.Histories.{of, BeginsWith, IsLegalSoFar, left_of}
use Rattle.turn_lock.specs.Views.{looked, waiting, called, tried, granted, acted, left}
use Rattle.turn_lock.specs.Rule.{greatest}

-- the list of the value in hand
abbrev pub in_hand : {V Ask Answer : Type 0} → (V → List (ChronicleEntry Ask Answer)) → List (ℕ × Option V) → List (ChronicleEntry Ask Answer)
in_hand entries [] = []
in_hand entries ((k, None) ∷ more) = []
in_hand entries ((k, Some value) ∷ more) = entries value

module _ {Ask Answer Fixed : Type 0} where
  pub record OpenerLearns (v : View Ask Answer Fixed) : Type 0 where
    pub clean : (number : ℕ) → length v.retired ≤ number → of v.seen number ≡ []
    pub counted : left_of v.retired + v.gone ≡ length v.retired

  -- what a look shows, by the kind of the seat
  abbrev pub Learns : View Ask Answer Fixed → Kind → Type 0
  Learns v Spent = Unit {0}
  Learns v Note = Unit {0}
  Learns v Opener = OpenerLearns v
  Learns v Caller = of v.seen v.number ≡ v.mine

  abbrev pub LearnsWhole : View Ask Answer Fixed → Kind → Type 0
  LearnsWhole v Spent = Unit {0}
  LearnsWhole v Note = BeginsWith v.seen v.before × BeginsWith v.seen v.learnt
  LearnsWhole v Opener = BeginsWith v.seen v.before × BeginsWith v.seen v.learnt
  LearnsWhole v Caller = BeginsWith v.seen v.before × BeginsWith v.seen v.learnt

  -- what the view has seen is legal, for the fixed part that it has
  abbrev pub SeesLegal : (Fixed → List (ChronicleEntry Ask Answer) → Type 0) → View Ask Answer Fixed → Type 0
  SeesLegal legal v = (fixed : Fixed) → v.fixed ≡ Some fixed → IsLegalSoFar (legal fixed) v.seen

  module _ {V : Type 0} (legal : Fixed → List (ChronicleEntry Ask Answer) → Type 0) where
    -- a reading of the tickets served by who waits for none
    pub record Looks (m : Me (Option V) (View Ask Answer Fixed)) (n : ℕ) (w : Me (Option V) (View Ask Answer Fixed)) : Type 0 where
      pub after : w ≡ (looked n m.0, m.1)
      pub below : n < greatest
      pub learns : Learns m.0 m.0.kind
      pub both : LearnsWhole m.0 m.0.kind
      pub low : m.0.low ≤ n
      pub sees : SeesLegal legal m.0

    -- the turn goes on, and the slot is given back
    pub record Serves (m w : Me (Option V) (View Ask Answer Fixed)) : Type 0 where
      pub after : w ≡ (left m.0, rest m.1)
      pub sees : SeesLegal legal m.0

  module _ {V : Type 0} where
    -- a ticket was drawn where the number found was the one expected, and nothing happened otherwise
    pub record Draws (expected : ℕ) (m : Me (Option V) (View Ask Answer Fixed)) (n : ℕ) (w : Me (Option V) (View Ask Answer Fixed)) : Type 0 where
      pub hit : n ≡ expected → w ≡ (waiting n m.0, m.1)
      pub miss : n ≢ expected → w ≡ m

  module _ {V : Type 0} (entries : V → List (ChronicleEntry Ask Answer)) where
    -- the history is now that of the value in hand
    abbrev pub Raises : Me (Option V) (View Ask Answer Fixed) → Me (Option V) (View Ask Answer Fixed) → Type 0
    Raises m w = w ≡ (acted (in_hand entries m.1) (of (in_hand entries m.1) m.0.number) m.0, m.1)

    module _ (fixed_of : V → Fixed) (legal : Fixed → List (ChronicleEntry Ask Answer) → Type 0) where
      -- the value was taken: its list begins with all that the pass had seen, and has none of the pass's entries beside those that it had
      pub record Takes (m : Me (Option V) (View Ask Answer Fixed)) (w : View Ask Answer Fixed → List (ChronicleEntry Ask Answer) → View Ask Answer Fixed) (after : Me (Option V) (View Ask Answer Fixed)) : Type 0 where
        pub value : V
        pub held : after.1 ≡ (0, Some value) ∷ m.1
        pub view : after.0 ≡ w m.0 (entries value)
        pub goes_on : BeginsWith (entries value) m.0.seen
        pub own : of (entries value) m.0.number ≡ m.0.mine
        pub same : m.0.fixed ≡ Some (fixed_of value)
        pub is_legal : IsLegalSoFar (legal (fixed_of value)) (entries value)

      -- a reading of the tickets served by who waits with a ticket
      pub record Awaits (m : Me (Option V) (View Ask Answer Fixed)) (n : ℕ) (w : Me (Option V) (View Ask Answer Fixed)) : Type 0 where
        pub hit : m.0.stage ≡ Waiting n → Takes m (λ v history. called n history v) w
        pub miss : m.0.stage ≢ Waiting n → w ≡ (looked n m.0, m.1)
        pub low : m.0.low ≤ n

      -- a try to draw the ticket that is served next
      pub record Tries (expected : ℕ) (m : Me (Option V) (View Ask Answer Fixed)) (n : ℕ) (w : Me (Option V) (View Ask Answer Fixed)) : Type 0 where
        pub hit : n ≡ expected → Takes m (λ v history. granted n history v) w
        pub miss : n ≢ expected → (w ≡ (tried n m.0, m.1)) × (expected < n)

      -- the value of a lock that was closed: its list begins with what the opener had seen, has for each pass that came back exactly its entries, and has no entry of another number
      pub record HasLeft (fixed : Fixed) (v : View Ask Answer Fixed) (value : V) : Type 0 where
        pub goes_on : BeginsWith (entries value) v.seen
        pub retired : (number : ℕ) (own : List (ChronicleEntry Ask Answer)) → slice_index_or v.retired number None ≡ Some own → of (entries value) number ≡ own
        pub strangers : (number : ℕ) → length v.retired ≤ number → of (entries value) number ≡ []
        pub same : fixed_of value ≡ fixed
        pub is_legal : IsLegalSoFar (legal fixed) (entries value)

      -- the seat that waited with this ticket has the turn; how often it looked is left open
      pub record Arrives (ticket : ℕ) (m : Me (Option V) (View Ask Answer Fixed)) (w : Me (Option V) (View Ask Answer Fixed)) : Type 0 where
        pub value : V
        pub held : w.1 ≡ (0, Some value) ∷ m.1
        pub view : w.0 ≡ record m.0 { stage = Turn ticket; low = ticket; looks = w.0.looks; seen = entries value }
        pub goes_on : BeginsWith (entries value) m.0.seen
        pub own : of (entries value) m.0.number ≡ m.0.mine
        pub same : m.0.fixed ≡ Some (fixed_of value)
        pub is_legal : IsLegalSoFar (legal (fixed_of value)) (entries value)
        pub low : m.0.low ≤ ticket
        pub rises : m.0.looks < w.0.looks
