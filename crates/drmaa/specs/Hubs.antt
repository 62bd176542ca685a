-- How a hub's client registers callbacks.
use Rattle.std.specs.Prelude.{◌≡◌, ℕ, List, [], ◌∷◌, ◌++◌, length, Option}
use Rattle.drmaa_types.specs.declared.changes.Notification.{Notification}
use Rattle.drmaa_model.specs.declared.calls.Call.TheVariants.{Register}
use Rattle.drmaa_model.specs.declared.configs.Config.{Config}
use Rattle.drmaa_model.specs.declared.entries.Entry.{Entry}
use Rattle.drmaa_model.specs.declared.replies.Reply.TheVariants.{Callback}
use Rattle.turn_lock.specs.Tokens.{Named, IsFree}
use Rattle.call_history.specs.Clients.{Seat, mine_of, number_of, KnowsItsOwn}
use Rattle.notify_hub.specs.Hubs.{Following, RegistersOn}
use Rattle.drmaa.specs.Closed.{RegistersFrom}

-- the client's last entry registers this number
pub record Registered (number : ℕ) (old new : Seat) : Type 0 where
  pub entry : Entry
  pub mine : mine_of new ≡ mine_of old ++ entry ∷ []
  pub call : entry.call ≡ Register
  pub reply : entry.reply ≡ Callback number

-- The client registered one callback, under this number.
pub record HasRegistered {B : Type 0} (counted : B → ℕ) (told : B → Option (List Notification)) (shared : Named Config) (old : Following B) (client : Seat) (number : ℕ) (new : Following B) (after : Seat) : Type 0 where
  pub free : IsFree shared after
  pub number_is : number_of after ≡ number_of client
  pub own : KnowsItsOwn after
  pub on : RegistersOn counted told shared old client new after
  pub registered : Registered number client after

-- The client registered so many callbacks, under the numbers from 1 on.
pub record HaveRegistered {B : Type 0} (counted : B → ℕ) (told : B → Option (List Notification)) (shared : Named Config) (old : Following B) (client : Seat) (count : ℕ) (new : Following B) (after : Seat) : Type 0 where
  pub free : IsFree shared after
  pub number_is : number_of after ≡ number_of client
  pub own : KnowsItsOwn after
  pub on : RegistersOn counted told shared old client new after
  pub numbers : RegistersFrom 1 (mine_of after)
  pub as_many : length (mine_of after) ≡ count
