-- Where callbacks stand in a machine's history, and which of its changes were handed over: our profile.
use Rattle.std.specs.Prelude.{◌≡◌, ℕ, ◌+◌, ◌-◌, ◌<◌, ◌^◌, Bool, nat_le, List, length, slice_index_or, Option, Some, IsSome}
use Rattle.std.specs.List.{AllByRecursion}
use Rattle.drmaa_types.specs.declared.changes.Change.{Change}
use Rattle.drmaa_types.specs.declared.changes.Notification.{Notification}
use Rattle.drmaa_model.specs.declared.calls.Call.TheVariants.{Register}
use Rattle.drmaa_model.specs.declared.configs.Config.{Config}
use Rattle.drmaa_model.specs.declared.entries.Entry.{Entry}
use Rattle.drmaa_model.specs.declared.replies.Reply.TheVariants.{Callback}
use Rattle.drmaa_model.specs.Heard.{place_from, heard}
use Rattle.drmaa_model.specs.History.{IsLegal, replay}
use Rattle.drmaa_model.specs.World.{opening_world}
use Rattle.turn_lock.specs.Histories.{BeginsWith}
use Rattle.change_callbacks.specs.Ears.{Listening, place_at}
use Rattle.change_callbacks.specs.Hearing.{HasHeard}

-- the changes of a history, in order
abbrev pub changes_of : Config → List Entry → List Change
changes_of config history = (replay config history).plan.changes

-- the change is of this entry or of an earlier one
abbrev pub is_up_to : ℕ → Change → Bool
is_up_to entry change = nat_le change.entry entry

-- the place of a number: how many changes there were right after the entry that registers it
abbrev pub place_of : Config → List Entry → ℕ → Option ℕ
place_of config history n = place_from (opening_world config) n history

-- how many callbacks a history registers
abbrev pub registrations_of : Config → List Entry → ℕ
registrations_of config history = (replay config history).registrations

-- A number of 64 bits tells how many changes there are, as in each history of a journal size below 2 ^ 64.
abbrev pub AreCountable : Config → List Entry → Type 0
AreCountable config history = length (changes_of config history) < 2 ^ 64

-- Each place given is that of its Register entry in this history, and the changes handed over are its first ones.
pub record Follows {B : Type 0} (config : Config) (history : List Entry) (ears : Listening B) : Type 0 where
  pub legal : IsLegal config history
  pub as_many : length ears.places ≡ 64
  pub places : (i place : ℕ) → place_at ears.places i ≡ Some place → place_of config history (i + 1) ≡ Some place
  pub handed : BeginsWith (changes_of config history) ears.handed

-- These are the places of the numbers from 1 to 64, and no other number has one.
pub record ArePlaced (config : Config) (history : List Entry) (places : List (Option ℕ)) : Type 0 where
  pub as_many : length places ≡ 64
  pub each : (i : ℕ) → place_at places i ≡ place_of config history (i + 1)

-- The number that an entry registers has a place, and so have those of all these entries.
abbrev pub HasPlace : List (Option ℕ) → Entry → Type 0
HasPlace places e = e.call ≡ Register → (n : ℕ) → e.reply ≡ Callback n → IsSome (place_at places (n - 1))

abbrev pub HavePlaces : List Entry → List (Option ℕ) → Type 0
HavePlaces entries places = AllByRecursion (HasPlace places) entries

-- Between the two lists each callback, if its place is that of its Register entry or there is neither, heard exactly what
-- this history has for it.
pub record HaveHeardAll {B : Type 0} (counted : B → ℕ) (told : B → Option (List Notification)) (config : Config) (history : List Entry) (places : List (Option ℕ)) (before after : List B) : Type 0 where
  pub as_many : length after ≡ length before
  pub each : (i : ℕ) (d : B) → i < length before → place_at places i ≡ place_of config history (i + 1)
      → HasHeard counted told (slice_index_or before i d) (slice_index_or after i d) (heard config history (i + 1))
