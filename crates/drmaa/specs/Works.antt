-- The desks with which a caller's work begins, and how it leaves them: our profile.
use Rattle.std.specs.Prelude.{◌≡◌, ℕ, zero, suc, ◌+◌, ◌<◌, List, [], length, Some, IfSome, All, slice_index_or}
use Rattle.drmaa_types.specs.Readings.{Readings}
use Rattle.drmaa_model.specs.declared.configs.Config.{Config}
use Rattle.drmaa_model.specs.declared.entries.Entry.{Entry}
use Rattle.turn_lock.specs.Tokens.{Named, IsFree}
use Rattle.call_history.specs.declared.desks.Desk.{Desk}
use Rattle.call_history.specs.Callers.{calls_of}
use Rattle.call_history.specs.Clients.{Seat, mine_of, number_of, KnowsItsOwn}

-- it is the machine's, holds no turn, and has made no entry
pub record Begins (shared : Named Config) (client : Seat) : Type 0 where
  pub free : IsFree shared client
  pub own : KnowsItsOwn client
  pub mine : mine_of client ≡ []

-- which caller the client of a work's desk is: the first is 0, and the others come behind the launcher, the reaper and the hub
abbrev pub caller_at : ℕ → ℕ
caller_at zero = 0
caller_at (suc place) = place + 4

-- the number is one of so many clients' of a work
abbrev pub IsWorks : ℕ → ℕ → Type 0
IsWorks clients number = (place : ℕ) × (place < clients) × (number ≡ caller_at place)

-- the clock is this caller's, and where it tells its readings it gave none yet
pub record IsUnread {C : Type 0} (given : C → Readings) (number : ℕ) (clock : C) : Type 0 where
  pub caller : (given clock).caller ≡ Some number
  pub unread : IfSome (given clock).told (λ readings. readings ≡ [])

-- A desk that is lent to a work: its client is a new one with this number, and has a clock of its own.
pub record IsLent {C : Type 0} (given : C → Readings) (number : ℕ) (desk : Desk C) : Type 0 where
  pub begins : Begins desk.shared.now desk.client
  pub number_is : number_of desk.client ≡ number
  pub clock : IsUnread given number desk.clock

-- no client of these desks holds a turn
abbrev pub AreFree : {C : Type 0} → List (Desk C) → Type 0
AreFree desks = All (λ d. IsFree d.shared.now d.client) desks

-- The desks that are lent to a work: so many, all of them at this machine, in the order of their callers.
pub record AreLent {C : Type 0} (given : C → Readings) (shared : Named Config) (clients : ℕ) (desks : List (Desk C)) : Type 0 where
  pub count : length desks ≡ clients
  pub free : AreFree desks
  pub shared_is : All (λ d. d.shared.now ≡ shared) desks
  pub lent : (place : ℕ) (d : Desk C) → place < clients → IsLent given (caller_at place) (slice_index_or desks place d)

-- A work leaves its desks: at each is a client of the machine that the desk was at, who holds no turn.
pub record AreLeft {C : Type 0} (before after : List (Desk C)) : Type 0 where
  pub count : length after ≡ length before
  pub each : (place : ℕ) (d : Desk C) → place < length before → IsFree (slice_index_or before place d).shared.now (slice_index_or after place d).client

-- the client is one of so many of a work, and the entries that it made are exactly those of its number
pub record HasMade (clients : ℕ) (history : List Entry) (client : Seat) : Type 0 where
  pub number : IsWorks clients (number_of client)
  pub mine : mine_of client ≡ calls_of history (number_of client)

-- so are and so did the clients of these desks
abbrev pub HaveMade : {C : Type 0} → ℕ → List Entry → List (Desk C) → Type 0
HaveMade clients history desks = All (λ d. HasMade clients history d.client) desks
