-- Callbacks that hear a play: GFD.231, notifications; from where on, and when, is our profile.
use Rattle.std.specs.Prelude.{◌≡◌, ◌⊎◌, ℕ, ◌+◌, ◌<◌, ◌≤◌, nat_le, List, [], ◌∷◌, ◌++◌, length, slice_index_or, Option, Some, None, if◌then◌else◌}
use Rattle.drmaa_types.specs.declared.changes.Notification.{Notification}
use Rattle.drmaa_model.specs.declared.configs.Config.{Config}
use Rattle.drmaa_model.specs.declared.entries.Entry.{Entry}
use Rattle.drmaa_model.specs.declared.replies.Reply.{Reply}
use Rattle.drmaa_model.specs.declared.replies.Reply.TheVariants as reply
use Rattle.drmaa_model.specs.Heard.{heard}
use Rattle.drmaa_model.specs.History.{Ledger, now_of}
use Rattle.change_callbacks.specs.Ears.{Listening, HaveHeard, place_at}
use Rattle.change_callbacks.specs.Hearing.{HasHeard}
use Rattle.change_callbacks.specs.Places.{ArePlaced, place_of, registrations_of}
use Rattle.script_play.specs.View.{Start}

-- the number that a reply registers
abbrev pub number_in : Reply → Option ℕ
number_in (reply.Callback number) = Some number
number_in reply.Unit = None
number_in (reply.Session session) = None
number_in (reply.Names names) = None
number_in (reply.Job job) = None
number_in (reply.Array array first count) = None
number_in (reply.Jobs jobs) = None
number_in (reply.State state) = None
number_in (reply.Info info) = None
number_in (reply.Reached job) = None
number_in (reply.Reserved reserved) = None
number_in (reply.Reservation info) = None
number_in (reply.Reservations numbers) = None
number_in (reply.Infos infos) = None
number_in (reply.ReservationInfos infos) = None
number_in (reply.Machine info) = None
number_in (reply.Launch launch) = None
number_in (reply.Signal signal) = None
number_in (reply.Refused why) = None

abbrev pub number_of : Option Entry → Option ℕ
number_of None = None
number_of (Some e) = number_in e.reply

-- The ears have all that a machine's history has for them: each number has the place of its Register entry, all changes were handed
-- over, and each callback heard those from its place on.
pub record AreCurrent {B : Type 0} (counted : B → ℕ) (told : B → Option (List Notification)) (ledger : Ledger) (ears : Listening B) : Type 0 where
  pub places : ArePlaced ledger.config ledger.history ears.places
  pub handed : ears.handed ≡ (now_of ledger).plan.changes
  pub heard : HaveHeard counted told ears

-- Between the two lists each callback heard exactly what the history has for its number, which is counted from 1.
pub record HearHistory {B : Type 0} (counted : B → ℕ) (told : B → Option (List Notification)) (config : Config) (history : List Entry) (before after : List B) : Type 0 where
  pub as_many : length after ≡ length before
  pub each : (i : ℕ) (d : B) → i < length before
      → HasHeard counted told (slice_index_or before i d) (slice_index_or after i d) (heard config history (i + 1))

-- The ears have all that a beginning of this history has for them.
pub record HaveFront {B : Type 0} (counted : B → ℕ) (told : B → Option (List Notification)) (config : Config) (history : List Entry) (ears : Listening B) : Type 0 where
  pub front : List Entry
  pub rest : List Entry
  pub whole : history ≡ front ++ rest
  pub current : AreCurrent counted told (record { config = config; history = front }) ears

-- Between the two lists each callback heard exactly what a beginning of this history, the same one for all, has for its number.
pub record HearFront {B : Type 0} (counted : B → ℕ) (told : B → Option (List Notification)) (config : Config) (history : List Entry) (before after : List B) : Type 0 where
  pub front : List Entry
  pub rest : List Entry
  pub whole : history ≡ front ++ rest
  pub heard : HearHistory counted told config front before after

-- ---- behind callbacks of an earlier run

-- Of a number that this run has given, what the history has for it; of one that an earlier run has given, whose callback is gone,
-- nothing. Numbers are counted from 1, and the earlier ones are the first.
abbrev pub place_since : ℕ → Config → List Entry → ℕ → Option ℕ
place_since earlier config history n = if nat_le n earlier then None else place_of config history n

abbrev pub heard_since : ℕ → Config → List Entry → ℕ → List Notification
heard_since earlier config history n = if nat_le n earlier then [] else heard config history n

-- These are the places of the numbers of this run, and no other number has one.
pub record ArePlacedAfter (earlier : ℕ) (config : Config) (history : List Entry) (places : List (Option ℕ)) : Type 0 where
  pub as_many : length places ≡ 64
  pub each : (i : ℕ) → place_at places i ≡ place_since earlier config history (i + 1)

-- The ears have all that a machine's history has for them, behind so many callbacks of an earlier run.
pub record AreCurrentAfter {B : Type 0} (counted : B → ℕ) (told : B → Option (List Notification)) (earlier : ℕ) (ledger : Ledger) (ears : Listening B) : Type 0 where
  pub places : ArePlacedAfter earlier ledger.config ledger.history ears.places
  pub handed : ears.handed ≡ (now_of ledger).plan.changes
  pub heard : HaveHeard counted told ears

-- Between the two lists each callback heard exactly what the history has for its number, if this run has given it, and else nothing:
-- the changes since its registration in this run.
pub record HearHistoryAfter {B : Type 0} (counted : B → ℕ) (told : B → Option (List Notification)) (earlier : ℕ) (config : Config) (history : List Entry) (before after : List B) : Type 0 where
  pub as_many : length after ≡ length before
  pub each : (i : ℕ) (d : B) → i < length before
      → HasHeard counted told (slice_index_or before i d) (slice_index_or after i d) (heard_since earlier config history (i + 1))

-- The ears have all that the entries before a play and a beginning of those that it adds have for them.
pub record HaveFrontAfter {B : Type 0} (counted : B → ℕ) (told : B → Option (List Notification)) (config : Config) (start : Start) (added : List Entry) (ears : Listening B) : Type 0 where
  pub front : List Entry
  pub rest : List Entry
  pub whole : added ≡ front ++ rest
  pub current : AreCurrentAfter counted told start.callbacks (record { config = config; history = start.entries ++ front }) ears

-- Between the two lists each callback heard exactly what the entries before a play and a beginning of those that it adds, the same
-- one for all, have for its number.
pub record HearFrontAfter {B : Type 0} (counted : B → ℕ) (told : B → Option (List Notification)) (config : Config) (start : Start) (added : List Entry) (before after : List B) : Type 0 where
  pub front : List Entry
  pub rest : List Entry
  pub whole : added ≡ front ++ rest
  pub heard : HearHistoryAfter counted told start.callbacks config (start.entries ++ front) before after

-- ---- one line

-- at most one entry was made
pub record GoesOn (before after : Ledger) : Type 0 where
  pub config : after.config ≡ before.config
  pub more : (after.history ≡ before.history) ⊎ ((e : Entry) × (after.history ≡ before.history ++ e ∷ []))

-- The ears have all of a history with so many entries and changes, which then went on by at most one entry; so many callbacks are of
-- an earlier run.
pub record AreBehind {B : Type 0} (counted : B → ℕ) (told : B → Option (List Notification)) (earlier entries changes : ℕ) (now : Ledger) (ears : Listening B) : Type 0 where
  pub before : Ledger
  pub current : AreCurrentAfter counted told earlier before ears
  pub registered : earlier ≤ registrations_of before.config before.history
  pub goes : GoesOn before now
  pub entries_are : entries ≡ length before.history
  pub changes_are : changes ≡ length (now_of before).plan.changes
