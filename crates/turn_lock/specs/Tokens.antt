-- What contracts see of a lock, its opener, its passes, notes and turns, and what its calls do to them. Our profile.
use Rattle.std.specs.Prelude.{◌≡◌, ℕ, ◌<◌, ◌≤◌, List, [], ◌++◌, length, Some, None, slice_index_or}
use Rattle.atomic_table.specs.Seated.{TableId}
use Rattle.drmaa_types.specs.declared.chronicles.ChronicleEntry.{ChronicleEntry}
use Rattle.turn_lock.specs.declared.views.View.{View}
use Rattle.turn_lock.specs.declared.views.Stage.TheVariants.{Idle, Turn}
use Rattle.turn_lock.specs.Histories.{of, BeginsWith}
use Rattle.turn_lock.specs.Views.{looked, tried, learning, retiring}

-- a lock: which one it is, and the fixed part of its value
pub record Named (Fixed : Type 0) : Type 0 where
  pub lock : TableId
  pub fixed : Fixed

-- an opener, a pass or a note: which lock it is of, and what it knows
pub record Token (Ask Answer Fixed : Type 0) : Type 0 where
  pub lock : TableId
  pub view : View Ask Answer Fixed

-- a turn: of which lock, with the number of its pass, its ticket and the value
pub record Held (V : Type 0) : Type 0 where
  pub lock : TableId
  pub number : ℕ
  pub ticket : ℕ
  pub value : V

-- the entry of this caller for what it asked and was answered
abbrev pub entry_of : {Ask Answer : Type 0} → ℕ → Ask → Answer → ChronicleEntry Ask Answer
entry_of number ask answer = record { caller = record { 0 = number }; ask = ask; answer = answer }

-- the list goes on from another, and what was added has no entry of this caller
pub record GoesOn {Ask Answer : Type 0} (old new : List (ChronicleEntry Ask Answer)) (number : ℕ) : Type 0 where
  pub between : List (ChronicleEntry Ask Answer)
  pub whole : new ≡ old ++ between
  pub others : of between number ≡ []

module _ {Ask Answer Fixed : Type 0} where
  -- the token is of this lock and knows its fixed part
  pub record BelongsTo (lock : Named Fixed) (token : Token Ask Answer Fixed) : Type 0 where
    pub lock_is : token.lock ≡ lock.lock
    pub fixed_is : token.view.fixed ≡ Some lock.fixed

  -- the pass is of this lock and holds no turn
  pub record IsFree (lock : Named Fixed) (pass : Token Ask Answer Fixed) : Type 0 where
    pub of_lock : BelongsTo lock pass
    pub idle : pass.view.stage ≡ Idle

  -- only how often it looked, and what it read, has changed
  abbrev pub IsLooked : View Ask Answer Fixed → View Ask Answer Fixed → Type 0
  IsLooked v w = w ≡ looked w.low v

  -- the pass has taken in the note: its list now begins with its own old one and with the note's
  pub record Learns (old note new : Token Ask Answer Fixed) : Type 0 where
    pub lock : new.lock ≡ old.lock
    pub view : IsLooked (learning old.view note.view) new.view
    pub from_old : BeginsWith new.view.seen old.view.seen
    pub from_note : BeginsWith new.view.seen note.view.seen
    pub own : of new.view.seen new.view.number ≡ new.view.mine

  -- the opener has taken the pass back: its list now begins with its own old one and with the pass's, and it has the pass's own entries under the pass's number, where it had none
  pub record Retires (old pass new : Token Ask Answer Fixed) : Type 0 where
    pub lock : new.lock ≡ old.lock
    pub view : IsLooked (retiring old.view pass.view) new.view
    pub from_old : BeginsWith new.view.seen old.view.seen
    pub from_pass : BeginsWith new.view.seen pass.view.seen
    pub given : pass.view.number < length old.view.retired
    pub was_out : slice_index_or old.view.retired pass.view.number None ≡ None
    pub own : of pass.view.seen pass.view.number ≡ pass.view.mine
    pub clean : (number : ℕ) → length new.view.retired ≤ number → of new.view.seen number ≡ []

  -- what a try that failed says: one look, one try and no draw in this call, and another ticket was drawn that is not served
  pub record FindsBusy (old new : Token Ask Answer Fixed) (served drawn : ℕ) : Type 0 where
    pub lock : new.lock ≡ old.lock
    pub view : new.view ≡ tried drawn (looked served old.view)
    pub less : served < drawn

  module _ {V : Type 0} (entries : V → List (ChronicleEntry Ask Answer)) (fixed_of : V → Fixed) where
    -- the turn is this pass's: the value's list is what the pass has now seen, and goes on from what it had seen by entries of others alone
    pub record Enters (lock : Named Fixed) (old new : Token Ask Answer Fixed) (turn : Held V) : Type 0 where
      pub turn_lock : turn.lock ≡ lock.lock
      pub turn_number : turn.number ≡ old.view.number
      pub pass_lock : new.lock ≡ old.lock
      pub goes_on : GoesOn old.view.seen (entries turn.value) old.view.number
      pub own : of (entries turn.value) old.view.number ≡ old.view.mine
      pub fixed_is : fixed_of turn.value ≡ lock.fixed

    -- the turn, its pass and the lock belong together
    pub record Together (lock : Named Fixed) (pass : Token Ask Answer Fixed) (turn : Held V) : Type 0 where
      pub turn_lock : turn.lock ≡ lock.lock
      pub pass_of : BelongsTo lock pass
      pub number : pass.view.number ≡ turn.number
      pub stage : pass.view.stage ≡ Turn turn.ticket
      pub seen : pass.view.seen ≡ entries turn.value
      pub fixed_is : fixed_of turn.value ≡ lock.fixed
