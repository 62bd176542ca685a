-- What a call of the face does, one step after another, and where it stops. Our profile.
use Rattle.std.specs.Prelude.{◌≡◌, ℕ, List, [], ◌∷◌, ◌++◌, Some}
use Rattle.drmaa_types.specs.declared.identifiers.SessionId.{SessionId}
use Rattle.drmaa_types.specs.declared.moments.Timeout.{Timeout}
use Rattle.drmaa_types.specs.declared.refusals.Refusal.{Refusal}
use Rattle.drmaa_types.specs.declared.refusals.Refusal.TheVariants.{OutOfMemory}
use Rattle.drmaa_types.specs.declared.states.WaitKind.TheVariants as until
use Rattle.drmaa_model.specs.declared.calls.Call.{Call}
use Rattle.drmaa_model.specs.declared.calls.Call.TheVariants as call
use Rattle.drmaa_model.specs.declared.configs.Config.{Config}
use Rattle.drmaa_model.specs.declared.entries.Entry.{Entry}
use Rattle.drmaa_model.specs.declared.faults.NoEntry.{NoEntry}
use Rattle.drmaa_model.specs.declared.replies.Reply.{Reply}
use Rattle.drmaa_model.specs.declared.replies.Reply.TheVariants as reply
use Rattle.drmaa_model.specs.History.{replay}
use Rattle.drmaa_model.specs.RecordedCalls.{recorded}
use Rattle.drmaa_machine.specs.Chronicles.{MakesNone}
use Rattle.call_history.specs.Calls.{entry_by, IsServed, IsUnserved}
use Rattle.call_history.specs.Clients.{Seat, seen_of, mine_of, number_of, SeesMore}
use Rattle.call_history.specs.Clocks.{IsReading}
use Rattle.call_history.specs.Refused.{refusal_of}
use Rattle.wait_calls.specs.Waited.{IsWaited, Answers}
use Rattle.drmaa1_face.specs.Posts.{Post}

-- what is asked of the machine: a call that it answers at once, or a wait for the end of one of some jobs
pub data Ask : Type 0 where
  at_once : Call → Ask
  waiting : (session : SessionId) (jobs : List ℕ) (begun : ℕ) (timeout : Timeout) → Ask

-- the call that its entry has
abbrev pub call_of : Ask → Call
call_of (at_once c) = c
call_of (waiting session jobs begun timeout) = call.Wait session jobs until.Terminated begun timeout

-- a step: the face reads the clock, or asks the machine, which answers with an entry
pub data Step : Type 0 where
  reads : (at : ℕ) → Step
  enters : (a : Ask) (told : Reply) → Step

-- ---- one step

-- a wait was answered: `wait` of wait_calls began at this reading, and its one entry has this reply
pub record Waits (config : Config) (old : Post) (session : SessionId) (jobs : List ℕ) (begun : ℕ) (timeout : Timeout) (told : Reply) (new : Post) : Type 0 where
  pub waited : IsWaited config old.clock old.client (λ b. call.Wait session jobs until.Terminated b timeout) (Answers old.client told new.client) new.clock new.client
  pub begins : waited.begun ≡ begun

-- what was asked was answered, by one entry of the caller
abbrev pub Enters : Config → Post → Ask → Reply → Post → Type 0
Enters config old (at_once c) told new = IsServed old.clock old.client c told new.clock new.client
Enters config old (waiting session jobs begun timeout) told new = Waits config old session jobs begun timeout told new

abbrev pub Takes : Config → Post → Step → Post → Type 0
Takes config old (reads at) new = (new.client ≡ old.client) × IsReading old.clock at new.clock
Takes config old (enters a told) new = Enters config old a told new

-- ---- a list of steps

-- the steps were taken, one after another, and no other was
abbrev pub Follows : Config → Post → List Step → Post → Type 0
Follows config old [] new = new ≡ old
Follows config old (s ∷ ss) new = (mid : Post) × (number_of mid.client ≡ number_of old.client) × Takes config old s mid × Follows config mid ss new

-- the entries of these steps, in order
abbrev pub AreEntriesOf : ℕ → List Step → List Entry → Type 0
AreEntriesOf number [] [] = Unit {0}
AreEntriesOf number [] (e ∷ es) = ⊥
AreEntriesOf number (reads at ∷ ss) es = AreEntriesOf number ss es
AreEntriesOf number (enters a told ∷ ss) [] = ⊥
AreEntriesOf number (enters a told ∷ ss) (e ∷ es) = (e ≡ entry_by number e.at (call_of a) told) × AreEntriesOf number ss es

-- The steps were taken, and the caller's new entries are exactly theirs.
pub record IsMade (config : Config) (old : Post) (steps : List Step) (new : Post) : Type 0 where
  pub follows : Follows config old steps new
  pub added : List Entry
  pub entries : AreEntriesOf (number_of old.client) steps added
  pub mine : mine_of new.client ≡ mine_of old.client ++ added

-- ---- where it stops

-- a wait made no entry: at its last look memory ran out, or the journal would be too large, after all that is seen then
abbrev pub MakesNoEntry : Config → Seat → Refusal → Seat → Call → ℕ → Type 0
MakesNoEntry config old why new asked last =
    (f : NoEntry) × (refusal_of f ≡ Some why) × SeesMore old new × MakesNone (replay config (seen_of new)) last (recorded asked) f

pub data IsUnwaited (config : Config) (old : Post) (session : SessionId) (jobs : List ℕ) (timeout : Timeout) (why : Refusal) (new : Post) : Type 0 where
  -- there was no memory for the list of the one job, and nothing was asked
  unasked : why ≡ OutOfMemory → new ≡ old → IsUnwaited config old session jobs timeout why new
  unmade : IsWaited config old.clock old.client (λ b. call.Wait session jobs until.Terminated b timeout) (MakesNoEntry config old.client why new.client) new.clock new.client
      → IsUnwaited config old session jobs timeout why new

-- what was asked made no entry
abbrev pub Fails : Config → Post → Ask → Refusal → Post → Type 0
Fails config old (at_once c) why new = (f : NoEntry) × (refusal_of f ≡ Some why) × IsUnserved config old.clock old.client c f new.clock new.client
Fails config old (waiting session jobs begun timeout) why new = IsUnwaited config old session jobs timeout why new

-- Some steps were taken, and what was asked behind them is refused: by its entry, or without one.
pub data Halts (config : Config) (old : Post) (front : List Step) (a : Ask) (why : Refusal) (new : Post) : Type 0 where
  by_entry : IsMade config old (front ++ enters a (reply.Refused why) ∷ []) new → Halts config old front a why new
  by_fault : (mid : Post) → IsMade config old front mid → Fails config mid a why new → mine_of new.client ≡ mine_of mid.client → Halts config old front a why new

-- A list goes on up to the first refusal: what it has before that was made, and what it asks there is refused.
pub record Stops (config : Config) (old : Post) (steps : List Step) (why : Refusal) (new : Post) : Type 0 where
  pub front : List Step
  pub a : Ask
  pub told : Reply
  pub back : List Step
  pub split : steps ≡ front ++ enters a told ∷ back
  pub halts : Halts config old front a why new
