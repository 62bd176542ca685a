-- How a hub and its client go on beside the clients of a machine: our profile.
use Rattle.std.specs.Prelude.{◌≡◌, ℕ, List, Option}
use Rattle.drmaa_types.specs.Readings.{Readings}
use Rattle.drmaa_types.specs.declared.changes.Notification.{Notification}
use Rattle.drmaa_model.specs.declared.configs.Config.{Config}
use Rattle.drmaa_model.specs.declared.entries.Entry.{Entry}
use Rattle.turn_lock.specs.Histories.{BeginsWith}
use Rattle.turn_lock.specs.Tokens.{Named, IsFree}
use Rattle.call_history.specs.Clients.{Seat, seen_of, mine_of, number_of}
use Rattle.call_history.specs.Timed.{StaysTimed}
use Rattle.change_callbacks.specs.Ears.{HaveHeard}
use Rattle.notify_hub.specs.Hubs.{Following, IsNoteOf, IsNoteAt, FollowsNote}
use Rattle.change_callbacks.specs.Places.{changes_of}

-- Between two calls of a hub no callback is lost, each heard what was handed over, and the places stay.
pub record KeepsCallbacks {B : Type 0} (counted : B → ℕ) (told : B → Option (List Notification)) (old new : Following B) : Type 0 where
  pub begun : new.ears.begun ≡ old.ears.begun
  pub places : new.ears.places ≡ old.ears.places
  pub heard : HaveHeard counted told old.ears → HaveHeard counted told new.ears

-- A hub has followed what was seen: its note is of that, and it handed over all changes of it.
pub record FollowsAll {B : Type 0} (shared : Named Config) (seen : List Entry) (hub : Following B) : Type 0 where
  pub note : IsNoteAt shared seen hub.note
  pub follows : FollowsNote hub.ears hub.note
  pub handed : hub.ears.handed ≡ changes_of shared.fixed seen

-- A client, which has made no entry since, and may have seen more.
pub record IsStillBeside (shared : Named Config) (old new : Seat) : Type 0 where
  pub client : IsFree shared new
  pub number : number_of new ≡ number_of old
  pub mine : mine_of new ≡ mine_of old
  pub begins : BeginsWith (seen_of new) (seen_of old)

-- A hub and its client go on: the client makes no entry, and no callback is lost.
pub record GoesOn {B : Type 0} (counted : B → ℕ) (told : B → Option (List Notification)) (shared : Named Config) (old : Following B) (client : Seat) (new : Following B) (after : Seat) : Type 0 where
  pub still : IsStillBeside shared client after
  pub note : IsNoteOf shared new.note
  pub keeps : KeepsCallbacks counted told old new

-- The clock of a hub's client is still the same caller's, and told the moments of the client's entries, if it did before.
pub record KeepsTime (before : List Entry) (early : Readings) (after : List Entry) (late : Readings) : Type 0 where
  pub timed : StaysTimed before early after late
