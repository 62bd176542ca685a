-- What one thread works with, and how its readings and entries go on. Our profile.
use Rattle.std.specs.Prelude.{◌≡◌, ◌⊎◌, ℕ, ◌≤◌, List, [], ◌∷◌, ◌++◌, map}
use Rattle.drmaa_types.specs.Readings.{Readings}
use Rattle.drmaa_model.specs.declared.calls.Call.{Call}
use Rattle.drmaa_model.specs.declared.configs.Config.{Config}
use Rattle.drmaa_model.specs.declared.entries.Entry.{Entry}
use Rattle.drmaa_model.specs.declared.faults.NoEntry.{NoEntry}
use Rattle.drmaa_model.specs.declared.replies.Reply.{Reply}
use Rattle.drmaa_model.specs.History.{IsLegal}
use Rattle.turn_lock.specs.Histories.{BeginsWith}
use Rattle.turn_lock.specs.Tokens.{Named, IsFree}
use Rattle.call_history.specs.declared.desks.Desk.{Desk}
use Rattle.call_history.specs.Calls.{IsServed, IsUnserved}
use Rattle.call_history.specs.Clients.{Seat, seen_of, mine_of, number_of, KnowsItsOwn}
use Rattle.call_history.specs.Clocks.{Dial, dial, Gives}
use Rattle.attendant.specs.Acts.{Act, own_acts}

-- what contracts see of a desk: its machine, its client and its clock
pub record Post : Type 0 where
  pub shared : Named Config
  pub client : Seat
  pub clock : Dial

abbrev pub post : {C : Type 0} → (C → Readings) → (C → ℕ) → Desk C → Post
post given least desk = record { shared = desk.shared.now; client = desk.client; clock = dial (given desk.clock) (least desk.clock) }

-- the entries of its client, as launcher and reaper read them
abbrev pub acts_at : Post → List Act
acts_at p = own_acts p.client

-- these moments stand among the readings, in their order
abbrev pub AreAmong : List ℕ → List ℕ → Type 0
AreAmong [] [] = Unit {0}
AreAmong [] (moment ∷ moments) = ⊥
AreAmong (reading ∷ readings) [] = Unit {0}
AreAmong (reading ∷ readings) (moment ∷ moments) = ((moment ≡ reading) × AreAmong readings moments) ⊎ AreAmong readings (moment ∷ moments)

-- The desk is still at its machine, and so is its client, who holds no turn, has seen all that it had seen, and knows its own
-- entries and has seen a legal history if it did before. Its clock is still that of the same caller, and the moments of the entries
-- that the client made are readings that it gave meanwhile, in their order.
pub record IsStillAt (old new : Post) : Type 0 where
  pub shared_is : new.shared ≡ old.shared
  pub client : IsFree old.shared new.client
  pub number : number_of new.client ≡ number_of old.client
  pub begins : BeginsWith (seen_of new.client) (seen_of old.client)
  pub own : KnowsItsOwn old.client → KnowsItsOwn new.client
  pub legal : IsLegal old.shared.fixed (seen_of old.client) → IsLegal old.shared.fixed (seen_of new.client)
  pub least : old.clock.least ≤ new.clock.least
  pub readings : List ℕ
  pub gave : Gives old.clock.given readings new.clock.given
  pub added : List Entry
  pub mine : mine_of new.client ≡ mine_of old.client ++ added
  pub timed : AreAmong readings (map (λ (e : Entry). e.at) added)

-- A call made its one entry, with this reply, at the one reading of the clock.
abbrev pub Succeeds : Post → Call → Reply → Post → Type 0
Succeeds old asked reply new = IsServed old.clock old.client asked reply new.clock new.client

-- A call made no entry: at the one reading of the clock the machine had no answer for it, after all that the client has now
-- seen, for this cause.
abbrev pub Fails : Post → Call → NoEntry → Post → Type 0
Fails old asked why new = IsUnserved old.shared.fixed old.clock old.client asked why new.clock new.client

-- At some time between the two a call made no entry, for this cause. The moment of the call is the one reading that it took of the
-- desk's clock: where the clock tells, it gave that between the two.
pub record FailsWithin (old : Post) (asked : Call) (why : NoEntry) (new : Post) : Type 0 where
  pub before : Post
  pub from_old : IsStillAt old before
  pub after : Post
  pub fails : Fails before asked why after
  pub to_new : IsStillAt after new
  pub earlier : List ℕ
  pub later : List ℕ
  pub read : Gives old.clock.given (earlier ++ fails.at ∷ later) new.clock.given
