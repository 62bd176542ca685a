-- What the clients, the launcher, the reaper and the hub of a run leave.
use Rattle.std.specs.Prelude.{◌≡◌, ◌≢◌, ℕ, ◌+◌, ◌<◌, List, [], ◌∷◌, ◌++◌, length, map, Option, Some, None, Ok, Err, slice_index_or}
use Rattle.std.specs.List.{slice_get}
use Rattle.child_spawner.specs.declared.fates.Asked.{Asked}
use Rattle.child_spawner.specs.declared.fates.Fate.{Fate}
use Rattle.child_spawner.specs.Children.{Told}
use Rattle.drmaa_types.specs.Readings.{Readings}
use Rattle.drmaa_types.specs.declared.changes.Notification.{Notification}
use Rattle.drmaa_types.specs.declared.refusals.Refusal.TheVariants.{OutOfResource}
use Rattle.drmaa_types.specs.declared.refusals.Limit.TheVariants as limit
use Rattle.drmaa_model.specs.declared.configs.Config.{Config}
use Rattle.turn_lock.specs.Histories.{BeginsWith}
use Rattle.turn_lock.specs.Tokens.{Named, BelongsTo}
use Rattle.call_history.specs.Clients.{Seat, seen_of, mine_of, number_of, retired_of, KnowsItsOwn}
use Rattle.call_history.specs.Clocks.{dial}
use Rattle.call_history.specs.Timed.{IsTimed}
use Rattle.notify_hub.specs.Hubs.{Following}
use Rattle.script_lines.specs.declared.lines.Line.{Line}
use Rattle.script_text.specs.declared.scripts.Script.{Script}
use Rattle.script_asks.specs.declared.given.Given.{Given}
use Rattle.attendant.specs.declared.reaper.Held.{Held}
use Rattle.attendant.specs.declared.reaper.Hand.{Hand}
use Rattle.attendant.specs.Acts.{own_acts}
use Rattle.attendant.specs.Posts.{Post, IsStillAt}
use Rattle.attendant.specs.Outside.{Tends, Keeps, AgreesOf, IsHeldUp, EndsSettled}
use Rattle.block_play.specs.declared.stops.Stopped.TheVariants as stopped
use Rattle.thread_play.specs.declared.firsts.First.{First}
use Rattle.thread_play.specs.declared.workers.Worker.{Worker}
use Rattle.beside_clients.specs.HubClients.{FollowsAll}
use Rattle.thread_play.specs.Stages.{PlaysOn, IsFirstHeard}

-- a client that is back, with its number, and the clock that was handed out to it
pub record IsBack (number : ℕ) (given : Readings) (client : Seat) : Type 0 where
  pub number_is : number_of client ≡ number
  pub own : KnowsItsOwn client
  pub timed : IsTimed (Some number) (mine_of client) given

-- the client of a block is back, and so far it was played
pub record IsEnded {C : Type 0} (given : C → Readings) (config : Config) (s : Script) (names : List (List ℕ × Given)) (place : ℕ) (w : Worker C) : Type 0 where
  pub back : IsBack (place + 1) (given w.clock) w.client
  pub sufficed : w.ended ≢ Err stopped.Memory
  pub played : (block : List Line) → slice_get s.clients place ≡ Some block → PlaysOn config s names block (mine_of w.client) (seen_of w.client) (given w.clock) w.ended

-- A desk went on from one post to another, and from there to a last one: it and its clock were its caller's from the beginning, and the
-- clock had told the moments of the caller's entries.
pub record HasGoneOn (shared : Named Config) (old mid new : Post) : Type 0 where
  pub shared_is : old.shared ≡ shared
  pub number : number_of new.client ≡ number_of old.client
  pub own : KnowsItsOwn old.client
  pub timed : IsTimed (Some (number_of old.client)) (mine_of old.client) old.clock.given
  pub on : IsStillAt mid new

-- Why a run was stopped: launcher or reaper met the size at some time before these last posts, or a client did.
pub data IsFullAtEnd {C : Type 0} (shared : Named Config) (ws : List (Worker C)) (launcher reaping : Post) (size : ℕ) : Type 0 where
  by_attendant : (l0 l1 r0 r1 : Post) → HasGoneOn shared l0 l1 launcher → HasGoneOn shared r0 r1 reaping → IsHeldUp l0 l1 r0 r1 (Unit {0}) (OutOfResource (limit.Journal size)) → IsFullAtEnd shared ws launcher reaping size
  by_client : (place : ℕ) (d : Worker C) → place < length ws → (slice_index_or ws place d).ended ≡ Err (stopped.Full size) → IsFullAtEnd shared ws launcher reaping size

-- All were played whole, and then the machine was settled.
pub record EndsWhole {C : Type 0} (config : Config) (ws : List (Worker C)) (launcher : Post) (reaping : Seat) : Type 0 where
  pub ended : (i : ℕ) (d : Worker C) → i < length ws → (slice_index_or ws i d).ended ≡ Ok tt
  pub settled : EndsSettled config launcher
  pub begins : BeginsWith (seen_of launcher.client) (seen_of reaping)

-- how a run ended, by the size that it met
abbrev pub Ends : {C : Type 0} → Named Config → List (Worker C) → Post → Post → Option ℕ → Type 0
Ends shared ws launcher reaping None = EndsWhole shared.fixed ws launcher reaping.client
Ends shared ws launcher reaping (Some size) = IsFullAtEnd shared ws launcher reaping size

-- What is left once all are back: each client's entries under its number, then the launcher's, the reaper's, and those of the hub's
-- client, which made none.
pub record Others {C T : Type 0} (given : C → Readings) (told : T → Option Told) (s : Script) (names : List (List ℕ × Given)) (shared : Named Config) (o p : Seat)
    (asked asked_after : Option (List Asked)) (fate : ℕ → Fate) (clocks clocks_after : List C) (full : Option ℕ) : Type 0 where
  pub opener : BelongsTo shared p
  pub begins : BeginsWith (seen_of p) (seen_of o)
  pub ws : List (Worker C)
  pub count : length ws ≡ length s.clients
  pub clients : (i : ℕ) (d : Worker C) → i < length ws → IsEnded given shared.fixed s names i (slice_index_or ws i d)
  pub launcher : Post
  pub launcher_clock : C
  pub launcher_given : given launcher_clock ≡ launcher.clock.given
  pub launcher_back : IsBack (length s.clients + 1) launcher.clock.given launcher.client
  pub reaping : Seat
  pub reaping_clock : C
  pub reaping_least : ℕ
  pub reaping_back : IsBack (length s.clients + 2) (given reaping_clock) reaping
  pub hub_seat : Seat
  pub hub_seat_clock : C
  pub hub_seat_mine : mine_of hub_seat ≡ []
  pub hub_seat_timed : IsTimed (Some (length s.clients + 3)) (mine_of hub_seat) (given hub_seat_clock)
  pub retired : retired_of p ≡ retired_of o ++ (map (λ (w : Worker C). Some (mine_of w.client)) ws ++ Some (mine_of launcher.client) ∷ Some (mine_of reaping) ∷ Some (mine_of hub_seat) ∷ [])
  pub clocks_are : clocks_after ≡ clocks ++ (map (λ (w : Worker C). w.clock) ws ++ launcher_clock ∷ reaping_clock ∷ hub_seat_clock ∷ [])
  -- the opener has seen what launcher and reaper had, and the launcher's client what the opener had before, and each client
  pub known : BeginsWith (seen_of p) (seen_of launcher.client)
  pub known_reaping : BeginsWith (seen_of p) (seen_of reaping)
  pub known_first : BeginsWith (seen_of launcher.client) (seen_of o)
  pub known_clients : (i : ℕ) (d : Worker C) → i < length ws → BeginsWith (seen_of launcher.client) (seen_of (slice_index_or ws i d).client)
  -- launcher and reaper
  pub at : ℕ → Option (Held T)
  pub hand : Option Hand
  pub tends : Tends (own_acts launcher.client) (own_acts reaping) at hand
  pub keeps : asked ≡ Some [] → Keeps told asked_after fate (own_acts launcher.client) (own_acts reaping) at hand
  pub agrees : full ≡ None → asked ≡ Some [] → AgreesOf asked_after fate (own_acts launcher.client) (own_acts reaping)
  pub ends : Ends shared ws launcher (record { shared = shared; client = reaping; clock = dial (given reaping_clock) reaping_least }) full

-- The hub's client has seen what the launcher's and the reaper's had, and all changes of that were handed over.
pub record OthersHeard {B C T : Type 0} (given : C → Readings) (told : T → Option Told) (s : Script) (names : List (List ℕ × Given)) (shared : Named Config) (o p : Seat)
    (asked asked_after : Option (List Asked)) (fate : ℕ → Fate) (clocks clocks_after : List C) (full : Option ℕ) (hub : Following B) : Type 0 where
  pub others : Others given told s names shared o p asked asked_after fate clocks clocks_after full
  pub known : BeginsWith (seen_of p) (seen_of others.hub_seat)
  pub launcher : BeginsWith (seen_of others.hub_seat) (seen_of others.launcher.client)
  pub reaping : BeginsWith (seen_of others.hub_seat) (seen_of others.reaping)
  pub follows : FollowsAll shared (seen_of others.hub_seat) hub

-- What the play of all blocks leaves: where the journal's size stopped setup, its client alone was there; else all others were there too.
pub data ArePlayed {B C T : Type 0} (counted : B → ℕ) (hears : B → Option (List Notification)) (given : C → Readings) (told : T → Option Told) (s : Script) (shared : Named Config) (p : Seat)
    (asked asked_after : Option (List Asked)) (fate : ℕ → Fate) (clocks : List C) (full : Option ℕ) (before hub : Following B) : Type 0 where
  setup_alone : (f : First C) (size : ℕ) → IsFirstHeard counted hears given s shared p f before hub → f.played ≡ Err (stopped.Full size) → asked_after ≡ asked → clocks ≡ f.clock ∷ [] → full ≡ Some size
      → ArePlayed counted hears given told s shared p asked asked_after fate clocks full before hub
  with_others : (o : Seat) (f : First C) (middle : Following B) (names : List (List ℕ × Given)) → IsFirstHeard counted hears given s shared o f before middle → f.played ≡ Ok names
      → hub.ears.places ≡ middle.ears.places → OthersHeard given told s names shared o p asked asked_after fate (f.clock ∷ []) clocks full hub
      → ArePlayed counted hears given told s shared p asked asked_after fate clocks full before hub
