-- The clients of a machine: how they begin, and what they leave.
use Rattle.std.specs.Prelude.{◌≡◌, ◌⊎◌, ℕ, ◌+◌, ◌<◌, List, [], ◌∷◌, ◌++◌, length, Option, Some, None, All, IsOk, IfErr, Result, slice_set, slice_index_or}
use Rattle.child_spawner.specs.declared.fates.Asked.{Asked}
use Rattle.child_spawner.specs.declared.fates.Fate.{Fate}
use Rattle.child_spawner.specs.Children.{Told}
use Rattle.drmaa_types.specs.Readings.{Readings}
use Rattle.drmaa_types.specs.declared.changes.Notification.{Notification}
use Rattle.drmaa_types.specs.declared.refusals.Refusal.{Refusal}
use Rattle.drmaa_model.specs.declared.configs.Config.{Config}
use Rattle.drmaa_model.specs.declared.entries.Entry.{Entry}
use Rattle.turn_lock.specs.Histories.{BeginsWith, left_of}
use Rattle.turn_lock.specs.Tokens.{Named, BelongsTo, IsFree}
use Rattle.call_history.specs.declared.desks.Desk.{Desk}
use Rattle.call_history.specs.Callers.{calls_of}
use Rattle.call_history.specs.Clients.{Seat, seen_of, mine_of, number_of, retired_of, KnowsItsOwn}
use Rattle.attendant.specs.Acts.{own_acts}
use Rattle.attendant.specs.declared.reaper.Held.{Held}
use Rattle.attendant.specs.declared.reaper.Hand.{Hand}
use Rattle.attendant.specs.Outside.{Tends, Keeps, AgreesOf, EndsSettled}
use Rattle.attendant.specs.Posts.{Post}
use Rattle.change_callbacks.specs.Ears.{HaveHeard}
use Rattle.notify_hub.specs.Hubs.{Following}
use Rattle.change_callbacks.specs.Places.{HavePlaces}
use Rattle.beside_clients.specs.declared.hub_clients.Seated.{Seated}
use Rattle.beside_clients.specs.HubClients.{FollowsAll, IsStillBeside}
use Rattle.drmaa.specs.declared.crews.Crew.{Crew}
use Rattle.drmaa.specs.declared.seats.Seats.{Seats}
use Rattle.drmaa.specs.Closed.{IsShort, RegistersFrom}
use Rattle.drmaa.specs.Works.{AreLent, IsUnread, IsWorks}

-- nobody is back
abbrev pub AreOut : List (Option (List Entry)) → Type 0
AreOut places = (number : ℕ) → slice_index_or places number None ≡ None

-- A client that was opened last, with this number.
pub record IsSeated (shared : Named Config) (o p : Seat) (number : ℕ) (client : Seat) : Type 0 where
  pub opener : BelongsTo shared p
  pub retired : retired_of p ≡ retired_of o ++ None ∷ []
  pub count : length (retired_of p) ≡ number + 1
  pub opener_seen : seen_of p ≡ seen_of o
  pub free : IsFree shared client
  pub number_is : number_of client ≡ number
  pub seen : seen_of client ≡ seen_of o
  pub mine : mine_of client ≡ []
  pub own : KnowsItsOwn client

-- a client of a new machine, which has seen and made nothing
pub record IsNew (shared : Named Config) (number : ℕ) (client : Seat) : Type 0 where
  pub free : IsFree shared client
  pub number_is : number_of client ≡ number
  pub mine : mine_of client ≡ []
  pub own : KnowsItsOwn client

-- The client of a work's first desk is open, and those of launcher, reaper and hub behind it.
pub record IsBegun {C : Type 0} (given : C → Readings) (shared : Named Config) (p : Seat) (first : Seated C) : Type 0 where
  pub opener : BelongsTo shared p
  pub out : AreOut (retired_of p)
  pub count : length (retired_of p) ≡ 4
  pub seen : seen_of p ≡ []
  pub own : IsNew shared 0 first.client
  pub clock : IsUnread given 0 first.clock

-- The first clients of a new machine.
pub record AreBegun {C : Type 0} (given : C → Readings) (shared : Named Config) (p : Seat) (seats : Seats C) : Type 0 where
  pub begun : IsBegun given shared p seats.own
  pub launcher : IsNew shared 1 seats.pair.launcher
  pub reaping : IsNew shared 2 seats.pair.reaping
  pub hub_seat : IsNew shared 3 seats.hub_seat.client

-- The desks of a work are open, so many, and the clients of launcher, reaper and hub with them.
pub record AreOpened {C : Type 0} (given : C → Readings) (shared : Named Config) (p : Seat) (clients : ℕ) (desks : List (Desk C)) : Type 0 where
  pub opener : BelongsTo shared p
  pub out : AreOut (retired_of p)
  pub count : length (retired_of p) ≡ clients + 3
  pub lent : AreLent given shared clients desks

-- The clients of a new machine.
pub record IsOpened {C : Type 0} (given : C → Readings) (shared : Named Config) (p : Seat) (clients : ℕ) (crew : Crew C) : Type 0 where
  pub desks : AreOpened given shared p clients crew.desks.items
  pub launcher : IsNew shared 1 crew.pair.launcher
  pub reaping : IsNew shared 2 crew.pair.reaping
  pub hub_seat : IsNew shared 3 crew.hub_seat.client

-- these are the caller's entries in a beginning of what was seen
pub record IsKnown (top : List Entry) (number : ℕ) (own : List Entry) : Type 0 where
  pub seen : List Entry
  pub begins : BeginsWith top seen
  pub own_is : own ≡ calls_of seen number

-- the list under the client's number is that of its entries
abbrev pub HasPlace : List (Option (List Entry)) → Seat → Type 0
HasPlace places client = slice_index_or places (number_of client) None ≡ Some (mine_of client)

-- The clients of a work's desks are back, where nobody was before: the launcher's client has seen what each of them had.
pub record AreTakenBack {C : Type 0} (shared : Named Config) (o p old new : Seat) (desks : List (Desk C)) : Type 0 where
  pub opener : BelongsTo shared p
  pub count : length (retired_of p) ≡ length (retired_of o)
  pub left : left_of (retired_of p) + length desks ≡ left_of (retired_of o)
  pub back : All (λ d. HasPlace (retired_of p) d.client) desks
  pub known : (number : ℕ) (own : List Entry) → slice_index_or (retired_of p) number None ≡ Some own → IsKnown (seen_of new) number own
  pub launcher : IsStillBeside shared old new

-- a client came back
pub record IsRetired (shared : Named Config) (o p client : Seat) : Type 0 where
  pub opener : BelongsTo shared p
  pub from_old : BeginsWith (seen_of p) (seen_of o)
  pub from_client : BeginsWith (seen_of p) (seen_of client)
  pub retired : retired_of p ≡ slice_set (retired_of o) (number_of client) (Some (mine_of client))
  pub was_out : slice_index_or (retired_of o) (number_of client) None ≡ None
  pub given : number_of client < length (retired_of o)
  pub own : KnowsItsOwn client

-- The launcher's client came back, then the reaper's, then the hub's.
pub record AreReleased (shared : Named Config) (o p launcher reaping hub_seat : Seat) : Type 0 where
  pub first : Seat
  pub second : Seat
  pub of_launcher : IsRetired shared o first launcher
  pub of_reaping : IsRetired shared first second reaping
  pub of_hub_seat : IsRetired shared second p hub_seat

-- All are back: the opener has the entries of each, and has seen what the launcher's client and the hub's had. The launcher's has seen
-- what those of the work had.
pub record AreBack {C : Type 0} (shared : Named Config) (p : Seat) (clients : ℕ) (desks : List (Desk C)) (launcher reaping hub_seat : Seat) : Type 0 where
  pub opener : BelongsTo shared p
  pub count : length (retired_of p) ≡ clients + 3
  pub none_out : left_of (retired_of p) ≡ 0
  pub back : All (λ d. HasPlace (retired_of p) d.client) desks
  pub numbers : All (λ d. IsWorks clients (number_of d.client)) desks
  pub launcher_back : slice_index_or (retired_of p) 1 None ≡ Some (mine_of launcher)
  pub reaping_back : slice_index_or (retired_of p) 2 None ≡ Some (mine_of reaping)
  pub hub_seat_back : slice_index_or (retired_of p) 3 None ≡ Some (mine_of hub_seat)
  pub known : (number : ℕ) (own : List Entry) → slice_index_or (retired_of p) number None ≡ Some own → ((number < 4) × (0 < number)) ⊎ IsKnown (seen_of launcher) number own
  pub launcher_known : BeginsWith (seen_of p) (seen_of launcher)
  pub hub_seat_known : BeginsWith (seen_of p) (seen_of hub_seat)

-- What all clients leave, and the hub with them.
pub record IsLeft {B C T : Type 0} (counted : B → ℕ) (told : B → Option (List Notification)) (tells : T → Option Told) (Does : List (Desk C) → Type 0) (shared : Named Config) (p : Seat) (clients : ℕ)
    (asked asked_after : Option (List Asked)) (fate : ℕ → Fate) (first hub : Following B) (count : ℕ) (ended : Result (Unit {0}) Refusal) : Type 0 where
  pub desks : List (Desk C)
  pub launcher : Post
  pub reaping : Seat
  -- the hub's client, when it had registered the callbacks, and at the end
  pub early : Seat
  pub hub_seat : Seat
  pub back : AreBack shared p clients desks launcher.client reaping hub_seat
  pub does : Does desks
  pub launcher_is : number_of launcher.client ≡ 1
  pub launcher_knows : KnowsItsOwn launcher.client
  pub reaping_is : number_of reaping ≡ 2
  pub reaping_knows : KnowsItsOwn reaping
  pub early_is : number_of early ≡ 3
  pub early_knows : KnowsItsOwn early
  pub hub_seat_mine : mine_of hub_seat ≡ mine_of early
  -- the launcher's client has seen what the hub's had, and the hub's what launcher and reaper had
  pub from_early : BeginsWith (seen_of launcher.client) (seen_of early)
  pub from_launcher : BeginsWith (seen_of hub_seat) (seen_of launcher.client)
  pub from_reaping : BeginsWith (seen_of hub_seat) (seen_of reaping)
  -- launcher and reaper
  pub at : ℕ → Option (Held T)
  pub hand : Option Hand
  pub tends : Tends (own_acts launcher.client) (own_acts reaping) at hand
  pub keeps : asked ≡ Some [] → Keeps tells asked_after fate (own_acts launcher.client) (own_acts reaping) at hand
  pub agrees : IsOk ended → asked ≡ Some [] → AgreesOf asked_after fate (own_acts launcher.client) (own_acts reaping)
  pub settled : IsOk ended → EndsSettled shared.fixed launcher
  pub begins : IsOk ended → BeginsWith (seen_of launcher.client) (seen_of reaping)
  pub short : IfErr ended IsShort
  -- the hub
  pub numbers : RegistersFrom 1 (mine_of hub_seat)
  pub as_many : length (mine_of hub_seat) ≡ count
  pub places : HavePlaces (mine_of hub_seat) hub.ears.places
  pub begun : hub.ears.begun ≡ first.ears.begun
  pub heard : HaveHeard counted told first.ears → HaveHeard counted told hub.ears
  pub follows : FollowsAll shared (seen_of hub_seat) hub
