-- The rule of the lock. Word 0 is the length of the history, word 1 the number of tickets drawn, word 2 the number of tickets served. Slot 0 has the value. Our profile.
use Rattle.std.specs.Prelude.{◌≡◌, ◌≢◌, ◌⊎◌, ℕ, ◌+◌, ◌<◌, ◌≤◌, Bool, true, false, List, [], ◌∷◌, length, Option, Some, None, slice_index_or}
use mathlib.Core.Option.{none, some}
use mathlib.Core.Option as maybe
use lib.ListN.{get_elem?}
use Rattle.atomic_table.specs.Table.{State}
use Rattle.drmaa_types.specs.declared.chronicles.ChronicleEntry.{ChronicleEntry}
use Rattle.turn_lock.specs.declared.views.View.{View}
use Rattle.turn_lock.specs.declared.views.Kind.{Kind}
use Rattle.turn_lock.specs.declared.views.Stage.{Stage}
use Rattle.turn_lock.specs.declared.views.Kind.TheVariants.{Spent, Note, Opener, Caller}
use Rattle.turn_lock.specs.declared.views.Stage.TheVariants.{Idle, Waiting, Turn}
use Rattle.turn_lock.specs.Histories.{of, BeginsWith, IsLegalSoFar, left_of}

-- no count of tickets is above it
abbrev pub greatest : ℕ
greatest = 18446744073709551615

-- the last ticket
abbrev pub last_ticket : ℕ
last_ticket = 18446744073709551614

-- What the words, the slot and the views are parts of: the history, the tickets drawn and served, whether a view is in turn, whose each ticket and each number is, and the lists of the passes that came back
pub record Scene (Ask Answer : Type 0) : Type 0 where
  pub history : List (ChronicleEntry Ask Answer)
  pub drawn : ℕ
  pub served : ℕ
  pub taken : Bool
  pub owner : ℕ → ℕ
  pub holder : ℕ → ℕ
  pub retired : List (Option (List (ChronicleEntry Ask Answer)))

-- the ticket is one of those that are drawn and not yet served, and it is this seat's
pub record IsTicket {Ask Answer : Type 0} (c : Scene Ask Answer) (seat ticket : ℕ) : Type 0 where
  pub waits : c.served ≤ ticket
  pub drawn : ticket < c.drawn
  pub owned : c.owner ticket ≡ seat

-- the ticket is the next to be served, the value is out with this seat, which has seen the whole history
pub record InTurn {Ask Answer : Type 0} (c : Scene Ask Answer) (seat ticket : ℕ) (seen : List (ChronicleEntry Ask Answer)) : Type 0 where
  pub next : ticket ≡ c.served
  pub drawn : ticket < c.drawn
  pub owned : c.owner ticket ≡ seat
  pub taken : c.taken ≡ true
  pub whole : seen ≡ c.history

abbrev pub AtStage : {Ask Answer : Type 0} → Scene Ask Answer → ℕ → List (ChronicleEntry Ask Answer) → Stage → Type 0
AtStage c seat seen Idle = Unit {0}
AtStage c seat seen (Waiting ticket) = IsTicket c seat ticket
AtStage c seat seen (Turn ticket) = InTurn c seat ticket seen

module _ {Ask Answer Fixed : Type 0} where
  -- what each view knows that is not spent
  pub record Knows (fixed : Fixed) (c : Scene Ask Answer) (v : View Ask Answer Fixed) : Type 0 where
    pub fixed_is : v.fixed ≡ Some fixed
    pub seen : BeginsWith c.history v.seen
    pub before : BeginsWith v.seen v.before
    pub learnt : BeginsWith v.seen v.learnt
    pub low : v.low ≤ c.served
    pub high : v.high ≤ c.drawn

  -- a spent view has no ticket, and no fixed part
  pub record StandsAsSpent (c : Scene Ask Answer) (v : View Ask Answer Fixed) : Type 0 where
    pub idle : v.stage ≡ Idle
    pub nothing : v.fixed ≡ None
    pub low : v.low ≤ c.served

  -- a note has no ticket and no entries of its own
  pub record StandsAsNote (v : View Ask Answer Fixed) : Type 0 where
    pub idle : v.stage ≡ Idle
    pub none : v.mine ≡ []

  -- the opener has no ticket, and has the list of each pass that came back
  pub record StandsAsOpener (c : Scene Ask Answer) (seat : ℕ) (v : View Ask Answer Fixed) : Type 0 where
    pub first : seat ≡ 0
    pub idle : v.stage ≡ Idle
    pub lists : v.retired ≡ c.retired
    pub counted : left_of v.retired + v.gone ≡ length v.retired

  -- a pass has a number that was given, has not come back, and its own entries are all that the history has of it
  pub record StandsAsCaller (c : Scene Ask Answer) (seat : ℕ) (v : View Ask Answer Fixed) : Type 0 where
    pub given : v.number < length c.retired
    pub held : c.holder v.number ≡ seat
    pub out : slice_index_or c.retired v.number None ≡ None
    pub mine : of c.history v.number ≡ v.mine
    pub own : of v.seen v.number ≡ v.mine
    pub stage : AtStage c seat v.seen v.stage

  abbrev pub StandsAs : Fixed → Scene Ask Answer → ℕ → View Ask Answer Fixed → Kind → Type 0
  StandsAs fixed c seat v Spent = StandsAsSpent c v
  StandsAs fixed c seat v Note = Knows fixed c v × StandsAsNote v
  StandsAs fixed c seat v Opener = Knows fixed c v × StandsAsOpener c seat v
  StandsAs fixed c seat v Caller = Knows fixed c v × StandsAsCaller c seat v

  -- how a view stands in the scene
  abbrev pub Stands : Fixed → Scene Ask Answer → ℕ → View Ask Answer Fixed → Type 0
  Stands fixed c seat v = StandsAs fixed c seat v v.kind

  -- some view meets this, at the seat
  pub record Sits (views : List (View Ask Answer Fixed)) (seat : ℕ) (P : View Ask Answer Fixed → Type 0) : Type 0 where
    pub view : View Ask Answer Fixed
    pub at : get_elem? views seat ≡ some view
    pub has : P view

  abbrev pub HasTicket : ℕ → View Ask Answer Fixed → Type 0
  HasTicket ticket v = (v.stage ≡ Waiting ticket) ⊎ (v.stage ≡ Turn ticket)

  abbrev pub HasTurn : ℕ → View Ask Answer Fixed → Type 0
  HasTurn ticket v = v.stage ≡ Turn ticket

  module _ {V : Type 0} (entries : V → List (ChronicleEntry Ask Answer)) (fixed_of : V → Fixed) (fixed : Fixed) where
    -- the value lies at home, with the whole history
    pub record IsHome (homes : List (maybe.Option (Option V))) (history : List (ChronicleEntry Ask Answer)) : Type 0 where
      pub value : V
      pub there : homes ≡ some (Some value) ∷ []
      pub whole : entries value ≡ history
      pub same : fixed_of value ≡ fixed

    abbrev pub Lies : List (maybe.Option (Option V)) → List (ChronicleEntry Ask Answer) → Bool → Type 0
    Lies homes history true = homes ≡ none ∷ []
    Lies homes history false = IsHome homes history

  module _ {V : Type 0} (entries : V → List (ChronicleEntry Ask Answer)) (fixed_of : V → Fixed) (legal : Fixed → List (ChronicleEntry Ask Answer) → Type 0) (fixed : Fixed) where
    pub record LockRule (s : State (Option V) (View Ask Answer Fixed)) (c : Scene Ask Answer) : Type 0 where
      pub words : s.words ≡ length c.history ∷ c.drawn ∷ c.served ∷ []
      pub order : c.served ≤ c.drawn
      pub served : c.served < greatest
      pub drawn : c.drawn ≤ greatest
      pub home : Lies entries fixed_of fixed s.homes c.history c.taken
      pub turn : c.taken ≡ true → Sits s.views (c.owner c.served) (HasTurn c.served)
      pub tickets : (ticket : ℕ) → c.served ≤ ticket → ticket < c.drawn → ticket ≢ last_ticket → Sits s.views (c.owner ticket) (HasTicket ticket)
      pub gone : (number : ℕ) (own : List (ChronicleEntry Ask Answer)) → slice_index_or c.retired number None ≡ Some own → of c.history number ≡ own
      pub strangers : (number : ℕ) → length c.retired ≤ number → of c.history number ≡ []
      pub beginnings : (start : List (ChronicleEntry Ask Answer)) → BeginsWith c.history start → IsLegalSoFar (legal fixed) start
      pub each : (seat : ℕ) (v : View Ask Answer Fixed) → get_elem? s.views seat ≡ some v → Stands fixed c seat v

    -- the rule of the lock
    abbrev pub LockHolds : State (Option V) (View Ask Answer Fixed) → Type 0
    LockHolds s = (c : Scene Ask Answer) × LockRule s c
