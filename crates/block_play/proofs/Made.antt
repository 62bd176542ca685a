-- What one call says of the play of a line.
use Rattle.std.proofs.Common.{◌≡◌, ℕ, ◌≤◌, Bool, List, [], ◌∷◌, ◌++◌, Option, Some, None, false, refl, sym, ap, ◌∙◌, subst, append-nil, arith}
use Rattle.std.specs.Prelude.{Result, Err, cond}
use Rattle.drmaa_types.specs.Readings.{Readings, Reads}
use Rattle.drmaa_model.specs.declared.calls.Call.{Call}
use Rattle.drmaa_model.specs.declared.configs.Config.{Config}
use Rattle.drmaa_model.specs.declared.entries.Entry.{Entry}
use Rattle.drmaa_model.specs.declared.faults.NoEntry.{NoEntry}
use Rattle.drmaa_model.specs.declared.faults.NoEntry.TheVariants as fault
use Rattle.drmaa_model.specs.declared.replies.Reply.{Reply}
use Rattle.drmaa_model.specs.History.{IsLegal}
use Rattle.turn_lock.specs.Histories.{BeginsWith}
use Rattle.turn_lock.specs.Tokens.{Named, IsFree}
use Rattle.script_lines.specs.declared.lines.Line.{Line}
use Rattle.script_text.specs.declared.scripts.Script.{Script}
use Rattle.script_text.specs.Follows.{is_wait}
use Rattle.script_asks.specs.declared.given.Given.{Given}
use Rattle.script_asks.specs.Asks.{asks}
use Rattle.script_asks.specs.Plays.{no_attempt, IsAsked}
use Rattle.script_asks.specs.Attempts.{attempt_in}
use Rattle.script_asks.specs.Replies.{names_after}
use Rattle.call_history.specs.declared.desks.Desk.{Desk}
use Rattle.call_history.specs.Calls.{entry_by, IsServed, IsUnserved}
use Rattle.call_history.specs.Clients.{Seat, seen_of, mine_of, number_of, KnowsItsOwn, IsStillAt}
use Rattle.call_history.specs.Clocks.{Dial, Gives}
use Rattle.call_history.specs.ClockLaws.{gives-one}
use Rattle.wait_calls.proofs.Seats.{still-same}
use Rattle.block_play.specs.declared.stops.Stopped.{Stopped}
use Rattle.block_play.specs.declared.stops.Stopped.TheVariants as stopped
use Rattle.script_text.specs.Follows.{lines_of}
use Rattle.block_play.specs.Played.{PlayedLine, PlayedLines, StopsLine, LeftByLine, stop_for, taken_by}
use Rattle.block_play.specs.Played.PlaysLine.{asks_nothing, asks_once}
use Rattle.block_play.specs.Played.StopsLine.{unmade, unkept}

pub still-at : (shared after : Named Config) (old new : Seat) → after ≡ shared → IsFree shared new → number_of new ≡ number_of old → BeginsWith (seen_of new) (seen_of old) → KnowsItsOwn new
    → IsLegal shared.fixed (seen_of new) → IsStillAt shared old after new
still-at shared after old new same free number begins own legal = record { shared_is = same; client = free; number = number; begins = begins; own = λ o. own; legal = λ l. legal }

-- what a call takes that does not wait
reads-one : (l : Line) (at : ℕ) (early late : Readings) → is_wait l ≡ false → Reads early at late → Gives early (taken_by l 0 [] at) late
reads-one l at early late quick told =
    subst (λ (b : Bool). Gives early (cond b (0 ∷ ([] ++ at ∷ [])) (at ∷ [])) late) (sym quick) (gives-one early at late told)

module _ (s : Script) (names : List (List ℕ × Given)) (l : Line) (before : ℕ) where
  -- a line that asks nothing
  pub played-nothing : (mine : List Entry) (least : ℕ) → before ≤ least → asks s names no_attempt 0 l ≡ None → PlayedLine s names l before mine mine names least
  played-nothing mine least early none = record { added = []; then = before; mine = sym (append-nil mine); plays = asks_nothing none refl refl refl; behind = early }

  asked-now : (number at : ℕ) (c : Call) (reply : Reply) → is_wait l ≡ false → asks s names no_attempt 0 l ≡ Some c → IsAsked s names before l (entry_by number at c reply)
  asked-now number at c reply quick asked = record { begun = 0; call = c; asked = asked; same = refl; in_time = λ waits. absurd cc }

  -- a line that asks a call that was served
  pub played-once : (early late : Dial) (old new : Seat) (c : Call) (reply : Reply) (after : List (List ℕ × Given)) → is_wait l ≡ false → asks s names no_attempt 0 l ≡ Some c
      → IsServed early old c reply late new → after ≡ names_after l reply names → PlayedLine s names l before (mine_of old) (mine_of new) after late.least
  played-once early late old new c reply after quick asked served then = record {
    added = entry_by (number_of old) served.at c reply ∷ [];
    then = served.at;
    mine = served.made.mine;
    plays = asks_once (entry_by (number_of old) served.at c reply) c asked refl (asked-now (number_of old) served.at c reply quick asked) then refl;
    behind = served.read.rising;
  }

  -- a call that was served, whose reply found no memory
  pub stopped-once : (config : Config) (early late : Dial) (old new : Seat) (c : Call) (reply : Reply) → is_wait l ≡ false → asks s names no_attempt 0 l ≡ Some c
      → IsServed early old c reply late new → StopsLine config s names l before old new early.given late.given stopped.Memory
  stopped-once config early late old new c reply quick asked served =
      unkept (names_after l reply names) late.least (played-once early late old new c reply (names_after l reply names) quick asked served refl) refl

  -- a call that made no entry
  pub stopped-full : (config : Config) (early late : Dial) (old new : Seat) (c : Call) (size : ℕ) → is_wait l ≡ false → before ≤ early.least → asks s names no_attempt 0 l ≡ Some c
      → IsUnserved config early old c (fault.Journal size) late new → StopsLine config s names l before old new early.given late.given (stopped.Full size)
  stopped-full config early late old new c size quick first asked none = unmade none.more.mine (record {
    begun = 0;
    call = c;
    at = none.at;
    asked = asked;
    none = none.reason;
    looks = [];
    read = reads-one l none.at early.given late.given quick none.read.told;
    behind = (let least = none.read.least in omega (arith, first, least));
    in_time = λ waits. absurd cc;
  })

  pub stopped-short : (config : Config) (early late : Dial) (old new : Seat) (c : Call) (why : NoEntry) → IsUnserved config early old c why late new
      → StopsLine config s names l before old new early.given late.given stopped.Memory
  stopped-short config early late old new c why none = unmade none.more.mine tt

  pub stopped-for : (config : Config) (early late : Dial) (old new : Seat) (c : Call) (why : NoEntry) → is_wait l ≡ false → before ≤ early.least → asks s names no_attempt 0 l ≡ Some c
      → IsUnserved config early old c why late new → StopsLine config s names l before old new early.given late.given (stop_for why)
  stopped-for config early late old new c fault.OutOfMemory quick first asked none = stopped-short config early late old new c fault.OutOfMemory none
  stopped-for config early late old new c fault.NotYet quick first asked none = stopped-short config early late old new c fault.NotYet none
  stopped-for config early late old new c fault.Nothing quick first asked none = stopped-short config early late old new c fault.Nothing none
  stopped-for config early late old new c (fault.Journal size) quick first asked none = stopped-full config early late old new c size quick first asked none

  pub stopped-still : (config : Config) (seat : Seat) (given : Readings) → StopsLine config s names l before seat seat given given stopped.Memory
  stopped-still config seat given = unmade refl tt

-- the line that stands first is the one that was read
first-line : (l m : Line) (ls ms : List Line) → l ∷ ls ≡ m ∷ ms → l ≡ m
first-line l m ls ms is = cc

pub left-read : {C : Type 0} (given : C → Readings) (least : C → ℕ) (s : Script) (names : List (List ℕ × Given)) (left : List Line) (l m : Line) (ls ms : List Line) (old new : Desk C)
    (end : Result (List (List ℕ × Given)) Stopped) → left ≡ m ∷ ms → left ≡ l ∷ ls → LeftByLine given least s names m old new end → LeftByLine given least s names l old new end
left-read given least s names left l m ls ms old new end read is by =
    subst (λ (x : Line). LeftByLine given least s names x old new end) (first-line m l ms ls (sym read ∙ is)) by

-- and one that could not be read makes no entry
pub left-unread : {C : Type 0} (given : C → Readings) (least : C → ℕ) (s : Script) (names : List (List ℕ × Given)) (l : Line) (desk : Desk C) → IsFree desk.shared.now desk.client
    → LeftByLine given least s names l desk desk (Err stopped.Memory)
left-unread given least s names l desk free = record {
  desk = still-same desk.shared.now desk.client free;
  timed = λ caller t. t;
  ok = tt;
  err = λ before early. stopped-still s names l before desk.shared.now.fixed desk.client (given desk.clock);
}

-- what a line asks of its client, who knows of no launch
pub asked-of : (s : Script) (given names : List (List ℕ × Given)) (attempts : List (ℕ × ℕ)) (begun : ℕ) (l : Line) (o : Option Call) → given ≡ names → attempts ≡ [] → begun ≡ 0
    → o ≡ asks s given (attempt_in attempts) begun l → o ≡ asks s names no_attempt 0 l
asked-of s given names attempts begun l o same none first is =
    is ∙ (ap (λ (n : List (List ℕ × Given)). asks s n (attempt_in attempts) begun l) same
    ∙ (ap (λ (a : List (ℕ × ℕ)). asks s names (attempt_in a) begun l) none ∙ ap (λ (b : ℕ). asks s names (attempt_in []) b l) first))

-- a script without a setup block
pub played-none : (s : Script) (names : List (List ℕ × Given)) (mine : List Entry) (least : ℕ) → s.setup ≡ None → names ≡ [] → PlayedLines s [] (lines_of s.setup) 0 mine mine names least
played-none s names mine least none new =
    subst (λ (ls : List Line). PlayedLines s [] ls 0 mine mine names least) (sym (ap lines_of none))
    (record { added = []; then = 0; mine = sym (append-nil mine); plays = (refl, new, refl); behind = omega arith })
