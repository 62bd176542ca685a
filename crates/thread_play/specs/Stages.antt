-- How a run goes on: what its parts leave.
use Rattle.std.specs.Prelude.{◌≡◌, ℕ, ◌+◌, ◌<◌, List, [], ◌∷◌, ◌++◌, length, replicate, All, Option, Some, None, IfSome, IfOk, Result, Ok, Err, slice_index_or, slice_set}
use Rattle.std.specs.List.{slice_get}
use Rattle.drmaa_types.specs.Readings.{Readings}
use Rattle.drmaa_types.specs.declared.changes.Notification.{Notification}
use Rattle.drmaa_types.specs.declared.refusals.Refusal.{Refusal}
use Rattle.drmaa_types.specs.declared.refusals.Refusal.TheVariants.{OutOfResource}
use Rattle.drmaa_types.specs.declared.refusals.Limit.TheVariants as limit
use Rattle.drmaa_model.specs.declared.configs.Config.{Config}
use Rattle.drmaa_model.specs.declared.entries.Entry.{Entry}
use Rattle.drmaa_model.specs.History.{IsLegal}
use Rattle.turn_lock.specs.Histories.{BeginsWith}
use Rattle.turn_lock.specs.Tokens.{Named, BelongsTo, IsFree}
use Rattle.call_history.specs.Callers.{calls_of}
use Rattle.call_history.specs.Clients.{Seat, seen_of, mine_of, number_of, retired_of, KnowsItsOwn, IsStillAt}
use Rattle.call_history.specs.Timed.{HaveStood, IsTimed, StaysTimed}
use Rattle.notify_hub.specs.Hubs.{Following}
use Rattle.script_lines.specs.declared.lines.Line.{Line}
use Rattle.script_text.specs.declared.scripts.Script.{Script}
use Rattle.script_text.specs.Follows.{lines_of}
use Rattle.script_asks.specs.declared.given.Given.{Given}
use Rattle.script_asks.specs.Plays.{Plays, names_by, setup_names}
use Rattle.block_play.specs.declared.stops.Stopped.{Stopped}
use Rattle.block_play.specs.declared.stops.Stopped.TheVariants as stopped
use Rattle.block_play.specs.Played.{IsFullFor, last_moment}
use Rattle.thread_play.specs.Hubs.{HearSetup}
use Rattle.thread_play.specs.declared.firsts.First.{First}
use Rattle.thread_play.specs.declared.workers.Worker.{Worker}

-- ---- the play of a block

-- The lines before one were played, and what it asks makes no entry after what was seen, since the journal would have this size, at the
-- last readings of the client's clock; before them it had told the moments of the client's entries.
pub record StopsAt (config : Config) (s : Script) (names : List (List ℕ × Given)) (block : List Line) (own seen : List Entry) (given : Readings) (size : ℕ) : Type 0 where
  pub front : List Line
  pub line : Line
  pub back : List Line
  pub lines : block ≡ front ++ line ∷ back
  pub played : Plays s names 0 front own
  pub told : Readings
  pub timed : HaveStood own told.told
  pub full : IsFullFor config s (names_by s names front own) (last_moment 0 own) line seen told given size

-- a block was played to its end, or it was stopped
abbrev pub PlaysOn : {A : Type 0} → Config → Script → List (List ℕ × Given) → List Line → List Entry → List Entry → Readings → Result A Stopped → Type 0
PlaysOn config s names block own seen given (Ok end) = Plays s names 0 block own
PlaysOn config s names block own seen given (Err stopped.Memory) = Unit {0}
PlaysOn config s names block own seen given (Err (stopped.Full size)) = StopsAt config s names block own seen given size

-- ---- setup

-- Setup was played by a client that is back, before others were there.
pub record IsFirst {C : Type 0} (given : C → Readings) (s : Script) (shared : Named Config) (o : Seat) (f : First C) : Type 0 where
  pub opener : BelongsTo shared o
  pub own : List Entry
  pub retired : retired_of o ≡ Some own ∷ []
  pub seen : BeginsWith (seen_of o) own
  pub alone : calls_of own 0 ≡ own
  pub legal : IsLegal shared.fixed (seen_of o)
  pub timed : IsTimed (Some 0) own (given f.clock)
  pub played : PlaysOn shared.fixed s [] (lines_of s.setup) own own (given f.clock) f.played
  pub names : IfOk f.played (λ names. names ≡ setup_names s own)

-- The hub's callbacks heard all of it.
pub record IsFirstHeard {B C : Type 0} (counted : B → ℕ) (told : B → Option (List Notification)) (given : C → Readings) (s : Script) (shared : Named Config) (o : Seat) (f : First C) (hub hub_after : Following B) : Type 0 where
  pub first : IsFirst given s shared o f
  pub hears : HearSetup counted told shared first.own hub hub_after

-- ---- clients

-- A client of a run, which has made nothing: it has seen what the opener had.
pub record IsNew (shared : Named Config) (o : Seat) (number : ℕ) (client : Seat) : Type 0 where
  pub free : IsFree shared client
  pub number_is : number_of client ≡ number
  pub seen : seen_of client ≡ seen_of o
  pub mine : mine_of client ≡ []
  pub own : KnowsItsOwn client

-- a client for the block at a place, with the clock that was handed out to it
pub record IsHired {C : Type 0} (given : C → Readings) (shared : Named Config) (o : Seat) (place : ℕ) (w : Worker C) : Type 0 where
  pub client : IsNew shared o (place + 1) w.client
  pub caller : (given w.clock).caller ≡ Some (place + 1)
  pub fresh : IfSome (given w.clock).told (λ readings. readings ≡ [])
  pub place_is : w.place ≡ place

-- a client for each block so far
pub record Hired {C : Type 0} (given : C → Readings) (shared : Named Config) (o p : Seat) (ws : List (Worker C)) : Type 0 where
  pub opener : BelongsTo shared p
  pub retired : retired_of p ≡ retired_of o ++ replicate (length ws) None
  pub seen : seen_of p ≡ seen_of o
  pub each : (i : ℕ) (d : Worker C) → i < length ws → IsHired given shared o i (slice_index_or ws i d)

-- a client that can play a block of the script
pub record IsReady {C : Type 0} (shared : Named Config) (s : Script) (w : Worker C) : Type 0 where
  pub free : IsFree shared w.client
  pub block : w.place < length s.clients

-- A client played its block.
pub record HasPlayed {C : Type 0} (given : C → Readings) (shared : Named Config) (s : Script) (names : List (List ℕ × Given)) (w v : Worker C) : Type 0 where
  pub still : IsStillAt shared w.client shared v.client
  pub timed : StaysTimed (mine_of w.client) (given w.clock) (mine_of v.client) (given v.clock)
  pub played : mine_of w.client ≡ [] → (block : List Line) → slice_get s.clients w.place ≡ Some block
      → PlaysOn shared.fixed s names block (mine_of v.client) (seen_of v.client) (given v.clock) v.ended

-- each client played its block
pub record HavePlayed {C : Type 0} (given : C → Readings) (shared : Named Config) (s : Script) (names : List (List ℕ × Given)) (ws vs : List (Worker C)) : Type 0 where
  pub count : length vs ≡ length ws
  pub each : (i : ℕ) (d : Worker C) → i < length ws → HasPlayed given shared s names (slice_index_or ws i d) (slice_index_or vs i d)

-- ---- the end

-- why a run is stopped, of two causes: want of memory, and else the first
abbrev pub worse : {A : Type 0} → Option Stopped → Result A Stopped → Option Stopped
worse kept (Ok end) = kept
worse None (Err why) = Some why
worse (Some stopped.Memory) (Err why) = Some stopped.Memory
worse (Some (stopped.Full size)) (Err stopped.Memory) = Some stopped.Memory
worse (Some (stopped.Full size)) (Err (stopped.Full other)) = Some (stopped.Full size)

-- the same of many
abbrev pub worst : {C : Type 0} → Option Stopped → List (Worker C) → Option Stopped
worst kept [] = kept
worst kept (w ∷ ws) = worst (worse kept w.ended) ws

-- the entries of clients that came back, under their numbers
abbrev pub with_back : {C : Type 0} → List (Option (List Entry)) → List (Worker C) → List (Option (List Entry))
with_back lists [] = lists
with_back lists (w ∷ ws) = with_back (slice_set lists (number_of w.client) (Some (mine_of w.client))) ws

-- The clients are back, and the launcher's client has seen what each had.
pub record Dismissed {C : Type 0} (shared : Named Config) (o p old new : Seat) (ws : List (Worker C)) : Type 0 where
  pub opener : BelongsTo shared p
  pub retired : retired_of p ≡ with_back (retired_of o) ws
  pub seen : BeginsWith (seen_of p) (seen_of o)
  pub launcher : IsStillAt shared old shared new
  pub mine : mine_of new ≡ mine_of old
  pub told : All (λ (w : Worker C). BeginsWith (seen_of new) (seen_of w.client)) ws

-- how launcher and reaper ended, as a run's end: with the journal's size where that was their refusal
abbrev pub EndsAs : {A B : Type 0} → Result A Refusal → Result B Stopped → Type 0
EndsAs (Ok a) (Ok b) = Unit {0}
EndsAs (Ok a) (Err end) = ⊥
EndsAs (Err why) (Ok b) = ⊥
EndsAs (Err why) (Err stopped.Memory) = Unit {0}
EndsAs (Err why) (Err (stopped.Full size)) = why ≡ OutOfResource (limit.Journal size)

-- the stop that a size stands for
abbrev pub stop_at : Option ℕ → Option Stopped
stop_at None = None
stop_at (Some size) = Some (stopped.Full size)
