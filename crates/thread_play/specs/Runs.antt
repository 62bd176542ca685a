-- What a run of a script for threads is, by its history alone: our profile.
use Rattle.std.specs.Prelude.{◌≡◌, ◌⊎◌, ℕ, ◌+◌, ◌<◌, Bool, true, List, [], ◌∷◌, ◌++◌, length, Option, Some, None, IfSome}
use Rattle.std.specs.List.{slice_get}
use Rattle.child_spawner.specs.declared.fates.Asked.{Asked}
use Rattle.child_spawner.specs.declared.fates.Fate.{Fate}
use Rattle.drmaa_types.specs.Readings.{Readings}
use Rattle.drmaa_types.specs.declared.identifiers.JobId.{JobId}
use Rattle.drmaa_model.specs.declared.calls.Call.{Call}
use Rattle.drmaa_model.specs.declared.calls.Call.TheVariants as call
use Rattle.drmaa_model.specs.declared.configs.Config.{Config}
use Rattle.drmaa_model.specs.declared.entries.Entry.{Entry}
use Rattle.drmaa_model.specs.declared.faults.NoEntry.TheVariants as fault
use Rattle.drmaa_model.specs.declared.replies.Signal.{Signal}
use Rattle.drmaa_model.specs.Consistent.{IsConsistent}
use Rattle.drmaa_model.specs.History.{IsLegal, replay}
use Rattle.drmaa_model.specs.RecordedCalls.{recorded}
use Rattle.drmaa_model.specs.NextLaunch.{settled}
use Rattle.drmaa_model.specs.SettledLaws.{IsQuiet}
use Rattle.drmaa_model.specs.Time.{advance}
use Rattle.drmaa_machine.specs.Chronicles.{MakesNone}
use Rattle.turn_lock.specs.Histories.{BeginsWith}
use Rattle.call_history.specs.Callers.{calls_of}
use Rattle.call_history.specs.Timed.{moments_of, StandsIn, IsTimed}
use Rattle.script_lines.specs.declared.lines.Line.{Line}
use Rattle.script_text.specs.declared.scripts.Script.{Script}
use Rattle.script_text.specs.declared.scripts.Mode.TheVariants as mode
use Rattle.script_text.specs.Follows.{lines_of}
use Rattle.script_text.specs.Scripts.{Spells}
use Rattle.script_asks.specs.declared.given.Given.{Given}
use Rattle.script_asks.specs.Plays.{Plays, names_by, setup_names}
use Rattle.attendant.specs.Acts.{acts_of, Each, is_launched}
use Rattle.attendant.specs.Outside.{IsLaunchersEntry, IsReapersEntry}
use Rattle.attendant.specs.Rounds.{asked_signal}
use Rattle.attendant.specs.Runs.{is_ended, owed}
use Rattle.attendant.specs.Whole.{AgreesWithOutside}
use Rattle.beside_clients.specs.Starts.{AreAsked}
use Rattle.block_play.specs.Played.{IsFullFor, last_moment}

-- some lines are this script's, for threads
abbrev pub IsForThreads : Script → Type 0
IsForThreads s = (lines : List (List ℕ)) × Spells mode.Threads lines s

-- The callers: the setup block is played by 0 and the clients' blocks by 1 and so on, in their order; then come the launcher, the
-- reaper, and the hub, who makes no call of its own.
abbrev pub launcher_of : Script → ℕ
launcher_of s = length s.clients + 1

abbrev pub reaper_of : Script → ℕ
reaper_of s = length s.clients + 2

abbrev pub hub_of : Script → ℕ
hub_of s = length s.clients + 3

-- the names that setup gave, by its entries
abbrev pub names_given : Script → List Entry → List (List ℕ × Given)
names_given s history = setup_names s (calls_of history 0)

-- One history of all callers.
pub record IsRun (s : Script) (history : List Entry) : Type 0 where
  -- replayed on the machine of the script, it gives every reply
  pub legal : IsLegal s.config history
  -- each beginning leads to a world in which started jobs fit the slots, and accepted reservations fit them at every moment
  pub fits : (front back : List Entry) → history ≡ front ++ back → IsConsistent (replay s.config front)
  -- the entries of setup come first
  pub setup_first : BeginsWith history (calls_of history 0)
  -- the launcher takes launches, and reports a start right after its launch; it makes no other calls
  pub launcher : Each IsLaunchersEntry (acts_of (calls_of history (launcher_of s)))
  -- the reaper takes orders, reports each once after it was taken, and reports an end once; it makes no other calls
  pub reaper : Each IsReapersEntry (acts_of (calls_of history (reaper_of s)))
  -- an end is reported of a run that was launched
  pub ended : (job : JobId) (attempt : ℕ) → is_ended job attempt (acts_of (calls_of history (reaper_of s))) ≡ true
      → is_launched job attempt (acts_of (calls_of history (launcher_of s))) ≡ true
  -- nobody else makes a call
  pub strangers : (caller : ℕ) → reaper_of s < caller → calls_of history caller ≡ []

-- Each block was played whole: its client's entries are what its lines ask, once each and in order, with the names that setup gave.
pub record PlaysAll (s : Script) (history : List Entry) : Type 0 where
  pub setup : Plays s [] 0 (lines_of s.setup) (calls_of history 0)
  pub clients : (n : ℕ) (block : List Line) → slice_get s.clients n ≡ Some block → Plays s (names_given s history) 0 block (calls_of history (n + 1))

-- the machine is settled at the last of these readings
pub record IsSettledAt (config : Config) (history : List Entry) (readings : List ℕ) : Type 0 where
  pub earlier : List ℕ
  pub last : ℕ
  pub are : readings ≡ earlier ++ last ∷ []
  pub settled_is : settled (advance (replay config history) last).plan ≡ true

-- ---- a run that was stopped by the journal's size

-- A client's block was played up to a line: what this one asks made no entry, since after some beginning of the history, which has all
-- of the client's entries, the journal would have had this size. The readings of that call are the last ones of the clock that was
-- handed out to the client, where it tells them, behind the moments of the client's entries.
pub record IsCutShort {C : Type 0} (given : C → Readings) (clocks : List C) (s : Script) (names : List (List ℕ × Given)) (block : List Line) (caller : ℕ) (history : List Entry) (size : ℕ) : Type 0 where
  pub front : List Line
  pub line : Line
  pub back : List Line
  pub lines : block ≡ front ++ line ∷ back
  pub played : Plays s names 0 front (calls_of history caller)
  pub seen : List Entry
  pub begins : BeginsWith history seen
  pub own : calls_of seen caller ≡ calls_of history caller
  pub clock : C
  pub of_caller : slice_get clocks caller ≡ Some clock
  pub told : Readings
  pub timed : IsTimed (Some caller) (calls_of history caller) told
  pub full : IsFullFor s.config s (names_by s names front (calls_of history caller)) (last_moment 0 (calls_of history caller)) line seen told (given clock) size

-- a client's block was played whole, or up to a line at which some size was met
abbrev pub PlaysUpTo : {C : Type 0} → (C → Readings) → List C → Script → List (List ℕ × Given) → List Line → ℕ → List Entry → Type 0
PlaysUpTo given clocks s names block caller history = Plays s names 0 block (calls_of history caller) ⊎ ((size : ℕ) × IsCutShort given clocks s names block caller history size)

-- these readings have this moment, behind the moments of the first entries and before those of the others
pub record HaveReading (first rest : List Entry) (at : ℕ) (readings : List ℕ) : Type 0 where
  pub earlier : List ℕ
  pub later : List ℕ
  pub are : readings ≡ earlier ++ at ∷ later
  pub made : StandsIn (moments_of first) earlier
  pub to_come : StandsIn (moments_of rest) later

-- the moment is a reading of this caller's clock, where it tells them, behind the moments of its first entries and before those of its
-- others
abbrev pub IsReadBy : {C : Type 0} → (C → Readings) → List C → ℕ → List Entry → List Entry → ℕ → Type 0
IsReadBy {C} given clocks caller first rest at = (clock : C) → slice_get clocks caller ≡ Some clock → IfSome (given clock).told (HaveReading first rest at)

-- This call of a caller made no entry, since after some beginning of the history, at a reading of the caller's clock, the journal would
-- have had this size. The beginning has all entries that the caller had made by then.
pub record MeetsSize {C : Type 0} (given : C → Readings) (clocks : List C) (config : Config) (history : List Entry) (caller : ℕ) (asked : Call) (size : ℕ) : Type 0 where
  pub seen : List Entry
  pub begins : BeginsWith history seen
  pub rest : List Entry
  pub own : calls_of history caller ≡ calls_of seen caller ++ rest
  pub at : ℕ
  pub read : IsReadBy given clocks caller (calls_of seen caller) rest at
  pub none : MakesNone (replay config seen) at (recorded asked) (fault.Journal size)

-- Which call met the size: the one that a client's next line asks; the taking of a launch or of an order; or the report of the order
-- that the reaper took last.
pub data IsMet {C : Type 0} (given : C → Readings) (clocks : List C) (s : Script) (history : List Entry) (size : ℕ) : Type 0 where
  by_block : (n : ℕ) (block : List Line) → slice_get s.clients n ≡ Some block → IsCutShort given clocks s (names_given s history) block (n + 1) history size → IsMet given clocks s history size
  by_launch : MeetsSize given clocks s.config history (launcher_of s) call.TakeLaunch size → IsMet given clocks s history size
  by_order : MeetsSize given clocks s.config history (reaper_of s) call.TakeSignal size → IsMet given clocks s history size
  by_answer : (signal : Signal) (answer : Bool) → (m : MeetsSize given clocks s.config history (reaper_of s) (asked_signal answer signal) size)
      → owed (acts_of (calls_of m.seen (reaper_of s))) ≡ Some signal → IsMet given clocks s history size

-- The run was stopped since the journal would have had this size: within setup, and then nobody else made a call, and nothing was asked
-- of the spawner; or behind it, and then each launch was asked of the spawner and nothing else, where it tells and nothing had been
-- asked of it before. There are as many clocks as callers.
pub data IsStopped {C : Type 0} (given : C → Readings) (clocks : List C) (s : Script) (history : List Entry) (asked asked_after : Option (List Asked)) (size : ℕ) : Type 0 where
  in_setup : IsCutShort given clocks s [] (lines_of s.setup) 0 history size → ((caller : ℕ) → 0 < caller → calls_of history caller ≡ []) → asked_after ≡ asked → length clocks ≡ 1
      → IsStopped given clocks s history asked asked_after size
  behind_setup : Plays s [] 0 (lines_of s.setup) (calls_of history 0)
      → ((n : ℕ) (block : List Line) → slice_get s.clients n ≡ Some block → PlaysUpTo given clocks s (names_given s history) block (n + 1) history)
      → IsMet given clocks s history size → (asked ≡ Some [] → IfSome asked_after (λ starts. AreAsked (acts_of (calls_of history (launcher_of s))) starts)) → length clocks ≡ hub_of s + 1
      → IsStopped given clocks s history asked asked_after size

-- ---- a run as it is left

-- Each block was played whole. There were so many callers. At the end no job holds slots and no order stands, and the machine is settled
-- at the last reading of the launcher's clock, where it tells them. Where the spawner tells, and nothing had been asked of it, the
-- outside agrees with the history.
pub record IsWhole {C : Type 0} (given : C → Readings) (s : Script) (history : List Entry) (asked asked_after : Option (List Asked)) (fate : ℕ → Fate) (clocks : List C) : Type 0 where
  pub plays : PlaysAll s history
  pub callers : length clocks ≡ hub_of s + 1
  pub quiet : IsQuiet (replay s.config history).plan
  pub rest : (clock : C) → slice_get clocks (launcher_of s) ≡ Some clock → IfSome (given clock).told (IsSettledAt s.config history)
  pub outside : asked ≡ Some [] → IfSome asked_after (λ starts. AgreesWithOutside starts fate (acts_of history))

-- how a run ended, by the size that stopped it
abbrev pub EndsBy : {C : Type 0} → (C → Readings) → Script → List Entry → Option (List Asked) → Option (List Asked) → (ℕ → Fate) → List C → Option ℕ → Type 0
EndsBy given s history asked asked_after fate clocks None = IsWhole given s history asked asked_after fate clocks
EndsBy given s history asked asked_after fate clocks (Some size) = IsStopped given clocks s history asked asked_after size

-- A run left this history, and these clocks of its callers, in the order of their numbers.
pub record HasRun {C : Type 0} (given : C → Readings) (s : Script) (history : List Entry) (asked asked_after : Option (List Asked)) (fate : ℕ → Fate) (clocks : List C) (full : Option ℕ) : Type 0 where
  pub run : IsRun s history
  -- the clock at each caller's place is one that was handed out to this caller, and the moments of its entries are readings of that
  -- clock, in their order, where it tells them
  pub timed : (caller : ℕ) (clock : C) → slice_get clocks caller ≡ Some clock → IsTimed (Some caller) (calls_of history caller) (given clock)
  pub ends : EndsBy given s history asked asked_after fate clocks full
