-- What a client's play of a block has come to: our profile.
use Rattle.std.specs.Prelude.{◌≡◌, ℕ, ◌≤◌, true, List, [], ◌∷◌, ◌++◌, Some, None, Result, IfOk, IfErr, cond}
use Rattle.drmaa_types.specs.Readings.{Readings}
use Rattle.drmaa_model.specs.declared.calls.Call.{Call}
use Rattle.drmaa_model.specs.declared.configs.Config.{Config}
use Rattle.drmaa_model.specs.declared.entries.Entry.{Entry}
use Rattle.drmaa_model.specs.declared.faults.NoEntry.{NoEntry}
use Rattle.drmaa_model.specs.declared.faults.NoEntry.TheVariants as fault
use Rattle.drmaa_model.specs.History.{replay}
use Rattle.drmaa_model.specs.RecordedCalls.{recorded}
use Rattle.drmaa_machine.specs.Chronicles.{MakesNone}
use Rattle.script_lines.specs.declared.lines.Line.{Line}
use Rattle.script_text.specs.declared.scripts.Script.{Script}
use Rattle.script_text.specs.Follows.{is_wait}
use Rattle.script_asks.specs.declared.given.Given.{Given}
use Rattle.script_asks.specs.Asks.{asks}
use Rattle.script_asks.specs.Plays.{no_attempt, IsAsked}
use Rattle.script_asks.specs.Replies.{names_after}
use Rattle.call_history.specs.declared.desks.Desk.{Desk}
use Rattle.call_history.specs.Clients.{Seat, seen_of, mine_of, IsStillAt}
use Rattle.call_history.specs.Clocks.{Gives}
use Rattle.call_history.specs.Timed.{StaysTimed}
use Rattle.block_play.specs.declared.stops.Stopped.{Stopped}
use Rattle.block_play.specs.declared.stops.Stopped.TheVariants as stopped

-- A line was played, with these names and behind an entry of this moment: it asks nothing, or it asks the one entry, whose reply
-- gives its name a number.
pub data PlaysLine (s : Script) (names : List (List ℕ × Given)) (before : ℕ) (l : Line) (es : List Entry) (after : List (List ℕ × Given)) (then : ℕ) : Type 0 where
  asks_nothing : asks s names no_attempt 0 l ≡ None → es ≡ [] → after ≡ names → then ≡ before → PlaysLine s names before l es after then
  asks_once : (e : Entry) (c : Call) → asks s names no_attempt 0 l ≡ Some c → es ≡ e ∷ [] → IsAsked s names before l e → after ≡ names_after l e.reply names → then ≡ e.at → PlaysLine s names before l es after then

-- Lines were played, one after the other.
abbrev pub PlaysLines : Script → List (List ℕ × Given) → ℕ → List Line → List Entry → List (List ℕ × Given) → ℕ → Type 0
PlaysLines s names before [] es after then = (es ≡ []) × (after ≡ names) × (then ≡ before)
PlaysLines s names before (l ∷ ls) es after then =
    (first : List Entry) × (rest : List Entry) × (mid : List (List ℕ × Given)) × (at : ℕ) × (es ≡ first ++ rest) × PlaysLine s names before l first mid at × PlaysLines s mid at ls rest after then

-- The client's own entries went on by those of this line, of which the last is at most the least moment that its clock may give.
pub record PlayedLine (s : Script) (names : List (List ℕ × Given)) (l : Line) (before : ℕ) (old new : List Entry) (after : List (List ℕ × Given)) (least : ℕ) : Type 0 where
  pub added : List Entry
  pub then : ℕ
  pub mine : new ≡ old ++ added
  pub plays : PlaysLine s names before l added after then
  pub behind : then ≤ least

-- the moment of the last of these entries, or this one where there is none
abbrev pub last_moment : ℕ → List Entry → ℕ
last_moment before [] = before
last_moment before (e ∷ es) = last_moment e.at es

-- the readings of its client's clock that a line's call takes: a wait that of its beginning, further ones, and that at which it was
-- answered; another call this one alone
abbrev pub taken_by : Line → ℕ → List ℕ → ℕ → List ℕ
taken_by l begun looks at = cond (is_wait l) (begun ∷ (looks ++ at ∷ [])) (at ∷ [])

-- What a line asks, behind an entry of this moment, makes no entry after this history, since the journal would have this size. Its
-- readings are all that the client's clock gave in this call, where it tells them: the machine answered at the last one, and a wait
-- began at the first. The clock is still the same caller's.
pub record IsFullFor (config : Config) (s : Script) (names : List (List ℕ × Given)) (before : ℕ) (l : Line) (history : List Entry) (early late : Readings) (size : ℕ) : Type 0 where
  pub begun : ℕ
  pub call : Call
  pub at : ℕ
  pub asked : asks s names no_attempt begun l ≡ Some call
  pub none : MakesNone (replay config history) at (recorded call) (fault.Journal size)
  pub looks : List ℕ
  pub read : Gives early (taken_by l begun looks at) late
  pub behind : before ≤ at
  pub in_time : is_wait l ≡ true → (before ≤ begun) × (begun ≤ at)

-- why a line made no entry
abbrev pub IsCause : Config → Script → List (List ℕ × Given) → ℕ → Line → List Entry → Readings → Readings → Stopped → Type 0
IsCause config s names before l history early late stopped.Memory = Unit {0}
IsCause config s names before l history early late (stopped.Full size) = IsFullFor config s names before l history early late size

-- The play stopped at a line, in which the clock went on from what it had told: it made no entry, for this cause; or it was played, and
-- memory ran out for what its reply gives.
pub data StopsLine (config : Config) (s : Script) (names : List (List ℕ × Given)) (l : Line) (before : ℕ) (old new : Seat) (early late : Readings) (why : Stopped) : Type 0 where
  unmade : mine_of new ≡ mine_of old → IsCause config s names before l (seen_of new) early late why → StopsLine config s names l before old new early late why
  unkept : (after : List (List ℕ × Given)) (least : ℕ) → PlayedLine s names l before (mine_of old) (mine_of new) after least → why ≡ stopped.Memory → StopsLine config s names l before old new early late why

-- why a client stops where its call made no entry
abbrev pub stop_for : NoEntry → Stopped
stop_for fault.OutOfMemory = stopped.Memory
stop_for fault.NotYet = stopped.Memory
stop_for fault.Nothing = stopped.Memory
stop_for (fault.Journal size) = stopped.Full size

-- What the play of a line leaves, by its end: the client is still at its machine, and its own entries went on by those of the line.
pub record LeftByLine {C : Type 0} (given : C → Readings) (least : C → ℕ) (s : Script) (names : List (List ℕ × Given)) (l : Line) (old new : Desk C)
    (end : Result (List (List ℕ × Given)) Stopped) : Type 0 where
  pub desk : IsStillAt old.shared.now old.client new.shared.now new.client
  pub timed : StaysTimed (mine_of old.client) (given old.clock) (mine_of new.client) (given new.clock)
  pub ok : IfOk end (λ after. (before : ℕ) → before ≤ least old.clock → PlayedLine s names l before (mine_of old.client) (mine_of new.client) after (least new.clock))
  pub err : IfErr end (λ why. (before : ℕ) → before ≤ least old.clock → StopsLine old.shared.now.fixed s names l before old.client new.client (given old.clock) (given new.clock) why)

-- The client's own entries went on by those of these lines.
pub record PlayedLines (s : Script) (names : List (List ℕ × Given)) (ls : List Line) (before : ℕ) (old new : List Entry) (after : List (List ℕ × Given)) (least : ℕ) : Type 0 where
  pub added : List Entry
  pub then : ℕ
  pub mine : new ≡ old ++ added
  pub plays : PlaysLines s names before ls added after then
  pub behind : then ≤ least

-- the next line of those that are left made no entry, for this cause
abbrev pub StopsBefore : Config → Script → List (List ℕ × Given) → ℕ → List Line → List Entry → Readings → Readings → Stopped → Type 0
StopsBefore config s names before ls history early late stopped.Memory = Unit {0}
StopsBefore config s names before [] history early late (stopped.Full size) = ⊥
StopsBefore config s names before (l ∷ ls) history early late (stopped.Full size) = IsFullFor config s names before l history early late size

-- The play stopped behind the first of these lines, before the others. The clock went on from what it had told; behind the first lines it
-- had told the moments of the client's entries, if it had before.
pub record StopsLines (config : Config) (s : Script) (names : List (List ℕ × Given)) (ls : List Line) (before : ℕ) (old new : Seat) (early late : Readings) (why : Stopped) : Type 0 where
  pub front : List Line
  pub back : List Line
  pub lines : ls ≡ front ++ back
  pub after : List (List ℕ × Given)
  pub least : ℕ
  pub played : PlayedLines s names front before (mine_of old) (mine_of new) after least
  pub told : Readings
  pub timed : StaysTimed (mine_of old) early (mine_of new) told
  pub cause : StopsBefore config s after played.then back (seen_of new) told late why
