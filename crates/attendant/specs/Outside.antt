-- What launcher and reaper keep between their rounds, and how the outside agrees with it.
use Rattle.std.specs.Prelude.{◌≡◌, ℕ, ◌+◌, Bool, true, false, not, ◌||◌, List, map, Option, Some, None, IsSome, IfSome, slice_get, if◌then◌else◌}
use Rattle.drmaa_types.specs.declared.identifiers.JobId.{JobId}
use Rattle.drmaa_model.specs.declared.configs.Config.{Config}
use Rattle.drmaa_model.specs.declared.calls.Call.TheVariants as call
use Rattle.drmaa_model.specs.declared.faults.NoEntry.TheVariants as no
use Rattle.drmaa_model.specs.declared.looks.Answer.TheVariants as answer
use Rattle.drmaa_model.specs.declared.looks.Question.TheVariants as question
use Rattle.call_history.specs.Calls.{IsLookedAt}
use Rattle.call_history.specs.Clients.{Seat}
use Rattle.call_history.specs.Clocks.{Dial}
use Rattle.drmaa_model.specs.declared.replies.Signal.{Signal}
use Rattle.drmaa_types.specs.declared.refusals.Refusal.{Refusal}
use Rattle.drmaa_types.specs.declared.refusals.Refusal.TheVariants.{OutOfResource, OutOfMemory}
use Rattle.drmaa_types.specs.declared.refusals.Limit.TheVariants as limit
use Rattle.drmaa_types.specs.declared.states.Exit.{Exit}
use Rattle.drmaa_types.specs.declared.states.Exit.TheVariants as exit
use Rattle.child_spawner.specs.declared.fates.Asked.{Asked}
use Rattle.child_spawner.specs.declared.fates.Fate.{Fate}
use Rattle.child_spawner.specs.Children.{Told}
use Rattle.attendant.specs.Acts.{Duty}
use Rattle.attendant.specs.Acts.{TakeLaunch, Started, StartFailed, Exited, ExitUnknown, TakeSignal, SignalDone, SignalFailed, Other}
use Rattle.drmaa_model.specs.declared.replies.Reply.{Reply}
use Rattle.attendant.specs.Acts.{Act}
use Rattle.drmaa_model.specs.declared.replies.Launch.{Launch}
use Rattle.attendant.specs.Acts.{Each, IsNewLaunch, IsSignal, launch_reply, signal_reply, is_launched}
use Rattle.attendant.specs.declared.reaper.Held.{Held}
use Rattle.attendant.specs.declared.reaper.Hand.{Hand}
use Rattle.attendant.specs.Posts.{Post, acts_at, FailsWithin}
use Rattle.attendant.specs.Rounds.{asked_signal}
use Rattle.attendant.specs.Runs.{requests_in, just_launched, owed, is_reported, is_ended, is_killed, hand_kills, IsUnanswered}

abbrev pub IsLaunchOf : JobId → ℕ → Option Launch → Type 0
IsLaunchOf job attempt None = ⊥
IsLaunchOf job attempt (Some l) = (l.job ≡ job) × (l.attempt ≡ attempt)

abbrev pub LauncherCalls : List Act → Duty → Reply → Type 0
LauncherCalls front TakeLaunch reply = IsNewLaunch front (launch_reply reply)
LauncherCalls front (Started job attempt) reply = IsLaunchOf job attempt (just_launched front)
LauncherCalls front (StartFailed job attempt) reply = IsLaunchOf job attempt (just_launched front)
LauncherCalls front (Exited job attempt exit) reply = ⊥
LauncherCalls front (ExitUnknown job attempt) reply = ⊥
LauncherCalls front TakeSignal reply = ⊥
LauncherCalls front (SignalDone job attempt kind) reply = ⊥
LauncherCalls front (SignalFailed job attempt kind) reply = ⊥
LauncherCalls front Other reply = ⊥

-- The launcher takes launches, and reports a start right after its launch.
abbrev pub IsLaunchersEntry : List Act → Act → Type 0
IsLaunchersEntry front e = LauncherCalls front e.call e.reply

abbrev pub ReaperCalls : List Act → Duty → Reply → Type 0
ReaperCalls front TakeLaunch reply = ⊥
ReaperCalls front (Started job attempt) reply = ⊥
ReaperCalls front (StartFailed job attempt) reply = ⊥
ReaperCalls front (Exited job attempt exit) reply = is_ended job attempt front ≡ false
ReaperCalls front (ExitUnknown job attempt) reply = is_ended job attempt front ≡ false
ReaperCalls front TakeSignal reply = IsSignal (signal_reply reply)
ReaperCalls front (SignalDone job attempt kind) reply = owed front ≡ Some (record { job = job; attempt = attempt; kind = kind })
ReaperCalls front (SignalFailed job attempt kind) reply = owed front ≡ Some (record { job = job; attempt = attempt; kind = kind })
ReaperCalls front Other reply = ⊥

-- The reaper takes orders, reports each once after it was taken, and reports an end once.
abbrev pub IsReapersEntry : List Act → Act → Type 0
IsReapersEntry front e = ReaperCalls front e.call e.reply

-- a run that was launched and whose end is not reported
pub record IsRunning (launcher reaper : List Act) (job : JobId) (attempt : ℕ) : Type 0 where
  pub launched : is_launched job attempt launcher ≡ true
  pub goes_on : is_ended job attempt reaper ≡ false

-- What launcher and reaper keep, whether the spawner tells or not.
pub record Tends {T : Type 0} (launcher reaper : List Act) (at : ℕ → Option (Held T)) (hand : Option Hand) : Type 0 where
  pub launches : Each IsLaunchersEntry launcher
  pub reports : Each IsReapersEntry reaper
  -- a start, an end and a kill are reported of launches alone
  pub started : (began : Bool) (job : JobId) (attempt : ℕ) → is_reported began job attempt launcher ≡ true → is_launched job attempt launcher ≡ true
  pub ended : (job : JobId) (attempt : ℕ) → is_ended job attempt reaper ≡ true → is_launched job attempt launcher ≡ true
  pub killed : (job : JobId) (attempt : ℕ) → is_killed job attempt reaper ≡ true → is_launched job attempt launcher ≡ true
  -- each child is that of a run, and no two of one
  pub children : (key : ℕ) (held : Held T) → at key ≡ Some held → IsRunning launcher reaper held.job held.attempt
  pub apart : (k l : ℕ) (h i : Held T) → at k ≡ Some h → at l ≡ Some i → h.job ≡ i.job → h.attempt ≡ i.attempt → k ≡ l
  -- the order in hand is owed; one that was delivered is of a launch
  pub owes : (h : Hand) → hand ≡ Some h → owed reaper ≡ Some h.signal
  pub delivered : (h : Hand) → hand ≡ Some h → IsSome h.answer → is_launched h.signal.job h.signal.attempt launcher ≡ true

-- the start after so many was asked for this run
pub record IsStart (starts : List Asked) (before : ℕ) (job : JobId) (attempt : ℕ) : Type 0 where
  pub asked : Asked
  pub at : slice_get starts before ≡ Some asked
  pub of_job : asked.job ≡ job
  pub of_attempt : asked.attempt ≡ attempt

-- the child of a start that began
pub record IsChild (starts : List Asked) (fate : ℕ → Fate) (job : JobId) (attempt : ℕ) (killed : Bool) (told : Option Told) : Type 0 where
  pub child : Told
  pub is : told ≡ Some child
  pub before : ℕ
  pub number : child.start ≡ before + 1
  pub start : IsStart starts before job attempt
  pub began : start.asked.began ≡ true
  pub of_job : child.job ≡ job
  pub of_attempt : child.attempt ≡ attempt
  pub fate_is : child.fate ≡ fate (before + 1)
  pub killed_is : child.killed ≡ killed

-- a start of this run whose fate has this property
pub record IsFated (P : Fate → Type 0) (starts : List Asked) (fate : ℕ → Fate) (job : JobId) (attempt : ℕ) : Type 0 where
  pub before : ℕ
  pub start : IsStart starts before job attempt
  pub fated : P (fate (before + 1))

abbrev pub FailsPoll : Fate → Type 0
FailsPoll f = IsSome f.failing_poll

abbrev pub FailsSignal : Fate → Type 0
FailsSignal f = IsSome f.failing_signal

abbrev pub EndsBy : Bool → Exit → Fate → Type 0
EndsBy killed x f = x ≡ (if killed then exit.Signal 9 else f.exit)

abbrev pub FaultTells : List Asked → (ℕ → Fate) → Duty → Type 0
FaultTells starts fate TakeLaunch = Unit {0}
FaultTells starts fate (Started job attempt) = Unit {0}
FaultTells starts fate (StartFailed job attempt) = Unit {0}
FaultTells starts fate (Exited job attempt exit) = Unit {0}
FaultTells starts fate (ExitUnknown job attempt) = IsFated FailsPoll starts fate job attempt
FaultTells starts fate TakeSignal = Unit {0}
FaultTells starts fate (SignalDone job attempt kind) = Unit {0}
FaultTells starts fate (SignalFailed job attempt kind) = IsFated FailsSignal starts fate job attempt
FaultTells starts fate Other = Unit {0}

-- An end that can't be learnt, and a signal that can't be delivered, are reported only where the fate names it.
abbrev pub IsFault : List Asked → (ℕ → Fate) → List Act → Act → Type 0
IsFault starts fate front e = FaultTells starts fate e.call

-- What they keep where the spawner tells what it was asked, and the fates.
pub record Tells {T : Type 0} (told : T → Option Told) (starts : List Asked) (fate : ℕ → Fate) (launcher reaper : List Act)
    (at : ℕ → Option (Held T)) (hand : Option Hand) : Type 0 where
  -- the launches are what was asked, in order
  pub asked : requests_in launcher ≡ map (λ (a : Asked). record { job = a.job; attempt = a.attempt; words = a.words }) starts
  pub children : (key : ℕ) (held : Held T) → at key ≡ Some held →
      IsChild starts fate held.job held.attempt (is_killed held.job held.attempt reaper || hand_kills hand held.job held.attempt) (told held.child)
  pub failing : (h : Hand) → hand ≡ Some h → h.answer ≡ Some false → IsFated FailsSignal starts fate h.signal.job h.signal.attempt
  pub faults : Each (IsFault starts fate) reaper

abbrev pub ExitTells : List Asked → (ℕ → Fate) → List Act → Duty → Type 0
ExitTells starts fate front TakeLaunch = Unit {0}
ExitTells starts fate front (Started job attempt) = Unit {0}
ExitTells starts fate front (StartFailed job attempt) = Unit {0}
ExitTells starts fate front (Exited job attempt x) = IsFated (EndsBy (is_killed job attempt front) x) starts fate job attempt
ExitTells starts fate front (ExitUnknown job attempt) = Unit {0}
ExitTells starts fate front TakeSignal = Unit {0}
ExitTells starts fate front (SignalDone job attempt kind) = Unit {0}
ExitTells starts fate front (SignalFailed job attempt kind) = Unit {0}
ExitTells starts fate front Other = Unit {0}

-- An exit is the signal 9 where a kill was reported as delivered before it, and the fate's exit otherwise.
abbrev pub IsExit : List Asked → (ℕ → Fate) → List Act → Act → Type 0
IsExit starts fate front e = ExitTells starts fate front e.call

-- a start is reported as it went, and not otherwise
pub record IsReported (launcher : List Act) (a : Asked) : Type 0 where
  pub began : is_reported true a.job a.attempt launcher ≡ a.began
  pub failed : is_reported false a.job a.attempt launcher ≡ not a.began

-- What also holds as long as no round was refused.
pub record Agrees (starts : List Asked) (fate : ℕ → Fate) (launcher reaper : List Act) : Type 0 where
  pub starts_reported : (n : ℕ) (a : Asked) → slice_get starts n ≡ Some a → IsReported launcher a
  pub exits : Each (IsExit starts fate) reaper

-- Where the spawner tells.
abbrev pub TellsOf : {T : Type 0} → (T → Option Told) → Option (List Asked) → (ℕ → Fate) → List Act → List Act → (ℕ → Option (Held T)) → Option Hand → Type 0
TellsOf told asked fate launcher reaper at hand = IfSome asked (λ starts. Tells told starts fate launcher reaper at hand)

-- All that is kept between rounds, whatever they answered.
pub record Keeps {T : Type 0} (told : T → Option Told) (asked : Option (List Asked)) (fate : ℕ → Fate) (launcher reaper : List Act)
    (at : ℕ → Option (Held T)) (hand : Option Hand) : Type 0 where
  pub tends : Tends launcher reaper at hand
  pub tells : TellsOf told asked fate launcher reaper at hand

abbrev pub AgreesOf : Option (List Asked) → (ℕ → Fate) → List Act → List Act → Type 0
AgreesOf asked fate launcher reaper = IfSome asked (λ starts. Agrees starts fate launcher reaper)

-- A step of the reaper keeps what is kept.
pub record Keeping {T : Type 0} (told : T → Option Told) (reaper reaper_after : List Act) (at at_after : ℕ → Option (Held T)) (hand hand_after : Option Hand) : Type 0 where
  pub keeps : (launcher : List Act) (asked : Option (List Asked)) (fate : ℕ → Fate) →
      Keeps told asked fate launcher reaper at hand → Keeps told asked fate launcher reaper_after at_after hand_after

-- It adds no exit that does not agree.
pub record Agreeing (reaper reaper_after : List Act) : Type 0 where
  pub agrees : (launcher : List Act) (asked : Option (List Asked)) (fate : ℕ → Fate) → AgreesOf asked fate launcher reaper → AgreesOf asked fate launcher reaper_after

-- Polls, which agree as long as no delivery is unreported.
pub record Polling {T : Type 0} (told : T → Option Told) (reaper reaper_after : List Act) (at at_after : ℕ → Option (Held T)) (hand hand_after : Option Hand) : Type 0 where
  pub keeping : Keeping told reaper reaper_after at at_after hand hand_after
  pub unanswered : IsUnanswered hand → IsUnanswered hand_after
  pub agrees : (launcher : List Act) (asked : Option (List Asked)) (fate : ℕ → Fate) → IsUnanswered hand →
      Keeps told asked fate launcher reaper at hand → AgreesOf asked fate launcher reaper → AgreesOf asked fate launcher reaper_after

-- A round that was not refused agrees.
pub record Agreed {T : Type 0} (told : T → Option Told) (reaper reaper_after : List Act) (at : ℕ → Option (Held T)) (hand : Option Hand) : Type 0 where
  pub agrees : (launcher : List Act) (asked : Option (List Asked)) (fate : ℕ → Fate) →
      Keeps told asked fate launcher reaper at hand → AgreesOf asked fate launcher reaper → AgreesOf asked fate launcher reaper_after

-- Rounds of launcher and reaper keep what is kept, and agree where they were clean.
pub record Attending {T : Type 0} (told : T → Option Told) (asked asked_after : Option (List Asked)) (fate fate_after : ℕ → Fate) (launcher launcher_after reaper reaper_after : List Act)
    (at at_after : ℕ → Option (Held T)) (hand hand_after : Option Hand) (Clean : Type 0) : Type 0 where
  pub fates : fate_after ≡ fate
  pub tends : Tends launcher reaper at hand → Tends launcher_after reaper_after at_after hand_after
  pub keeps : Keeps told asked fate launcher reaper at hand → Keeps told asked_after fate_after launcher_after reaper_after at_after hand_after
  pub agrees : Clean → Keeps told asked fate launcher reaper at hand → AgreesOf asked fate launcher reaper → AgreesOf asked_after fate_after launcher_after reaper_after

-- Why the loops are refused: for want of memory; or with the size that the machine answered for a call of launcher or reaper, at the
-- reading that this call took: for taking a launch, for taking an order, or for reporting what the delivery of an order answered. That
-- order is the one which the reaper took last, where the two tended before.
pub data IsHeldUp (launcher launcher_after reaping reaping_after : Post) (Tended : Type 0) (why : Refusal) : Type 0 where
  out_of_memory : why ≡ OutOfMemory → IsHeldUp launcher launcher_after reaping reaping_after Tended why
  full_at_launch : (size : ℕ) → why ≡ OutOfResource (limit.Journal size) → FailsWithin launcher call.TakeLaunch (no.Journal size) launcher_after
      → IsHeldUp launcher launcher_after reaping reaping_after Tended why
  full_at_order : (size : ℕ) → why ≡ OutOfResource (limit.Journal size) → FailsWithin reaping call.TakeSignal (no.Journal size) reaping_after
      → IsHeldUp launcher launcher_after reaping reaping_after Tended why
  full_at_answer : (size : ℕ) (signal : Signal) (answer : Bool) → why ≡ OutOfResource (limit.Journal size)
      → (f : FailsWithin reaping (asked_signal answer signal) (no.Journal size) reaping_after) → (Tended → owed (acts_at f.before) ≡ Some signal)
      → IsHeldUp launcher launcher_after reaping reaping_after Tended why

-- The client's last call was a look, at the clock's last reading, for the world of all that the client has seen, and it said that the machine is settled.
pub record EndsSettled (config : Config) (now : Post) : Type 0 where
  pub before : Dial
  pub old : Seat
  pub look : IsLookedAt config before old question.Settled (answer.Settled true) now.clock now.client
