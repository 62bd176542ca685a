-- What callbacks hear of a run: GFD.231, notifications; from where on, and by whom, is our profile.
use Rattle.std.specs.Prelude.{◌≡◌, ℕ, List, slice_set, Option, Some}
use Rattle.drmaa_types.specs.declared.changes.Notification.{Notification}
use Rattle.drmaa_model.specs.declared.configs.Config.{Config}
use Rattle.drmaa_model.specs.declared.entries.Entry.{Entry}
use Rattle.turn_lock.specs.Histories.{BeginsWith}
use Rattle.turn_lock.specs.Tokens.{Named, BelongsTo}
use Rattle.call_history.specs.Clients.{Seat, seen_of, mine_of, number_of, retired_of}
use Rattle.change_callbacks.specs.Ears.{HaveHeard}
use Rattle.notify_hub.specs.Hubs.{Following, noted, MayBe}
use Rattle.change_callbacks.specs.Places.{ArePlaced, HavePlaces, changes_of}
use Rattle.beside_clients.specs.HubClients.{FollowsAll}

-- The client is back: the opener has its entries, and has seen what it had.
pub record IsReturned (shared : Named Config) (o p : Seat) (client : Seat) : Type 0 where
  pub opener : BelongsTo shared p
  pub retired : retired_of p ≡ slice_set (retired_of o) (number_of client) (Some (mine_of client))
  pub begins : BeginsWith (seen_of p) (seen_of o)
  pub known : BeginsWith (seen_of p) (seen_of client)

-- Setup's callbacks: the hub has followed all of setup's entries, and the numbers that they registered have their places.
pub record HearSetup {B : Type 0} (counted : B → ℕ) (told : B → Option (List Notification)) (shared : Named Config) (own : List Entry) (old new : Following B) : Type 0 where
  pub follows : FollowsAll shared own new
  pub placed : HavePlaces own new.ears.places
  pub begun : new.ears.begun ≡ old.ears.begun
  pub heard : HaveHeard counted told old.ears → HaveHeard counted told new.ears

-- The hub of a run has followed all of this history: each number has the place of its Register entry, and all changes were handed
-- over.
pub record HearRun {B : Type 0} (config : Config) (history : List Entry) (hub : Following B) : Type 0 where
  pub may : MayBe config hub.note
  pub noted_is : noted hub.note ≡ history
  pub places : ArePlaced config history hub.ears.places
  pub handed : hub.ears.handed ≡ changes_of config history
