-- The steps of launcher and reaper.
use Rattle.std.specs.Prelude.{◌≡◌, ◌≢◌, ◌⊎◌, ℕ, Bool, true, false, List, [], ◌∷◌, ◌++◌, length, Option, Some, None, Result, Ok, Err, IfSome}
use Rattle.drmaa_types.specs.declared.refusals.Refusal.{Refusal}
use Rattle.drmaa_types.specs.declared.refusals.Refusal.TheVariants.{OutOfResource, OutOfMemory}
use Rattle.drmaa_types.specs.declared.refusals.Limit.TheVariants as limit
use Rattle.child_spawner.specs.declared.fates.Asked.{Asked}
use Rattle.child_spawner.specs.declared.fates.Fate.{Fate}
use Rattle.child_spawner.specs.Children.{Told, started_child}
use Rattle.child_spawner.specs.Spawners.{Asks}
use Rattle.drmaa_types.specs.Counts.{Rose}
use Rattle.slab.specs.Slab.{Slab, get, SameValues, Updates}
use Rattle.drmaa_model.specs.declared.calls.Call.{Call}
use Rattle.drmaa_model.specs.declared.calls.Call.TheVariants as call
use Rattle.attendant.specs.Acts.{Act, Duty, TakeLaunch, Started, StartFailed, Exited, ExitUnknown, TakeSignal, SignalDone, SignalFailed, Other, duty_of, IsNewLaunch, IsSignal, launch_reply, signal_reply, is_launched}
use Rattle.attendant.specs.Posts.{Post, acts_at, Succeeds, Fails, FailsWithin}
use Rattle.drmaa_model.specs.declared.faults.NoEntry.{NoEntry}
use Rattle.drmaa_model.specs.declared.faults.NoEntry.TheVariants as no
use Rattle.drmaa_model.specs.declared.replies.Reply.{Reply}
use Rattle.drmaa_model.specs.declared.replies.Reply.TheVariants as reply
use Rattle.drmaa_model.specs.declared.replies.Launch.{Launch}
use Rattle.drmaa_model.specs.Faults.{refusal_for}
use Rattle.call_history.specs.Clients.{number_of}
use Rattle.drmaa_types.specs.declared.identifiers.JobId.{JobId}
use Rattle.attendant.specs.declared.reaper.Held.{Held}
use Rattle.attendant.specs.declared.launching.Launched.{Launched}
use Rattle.attendant.specs.declared.launching.Launched.TheVariants as launched

abbrev pub entry_of : ℕ → Duty → Reply → Act
entry_of number call reply = record { caller = record { 0 = number }; call = call; reply = reply }

-- a launch that is handed out is of a new run, and a signal that is asked for is answered
abbrev pub IsLegalReply : List Act → Duty → Reply → Type 0
IsLegalReply front TakeLaunch reply = IsNewLaunch front (launch_reply reply)
IsLegalReply front (Started job attempt) reply = Unit {0}
IsLegalReply front (StartFailed job attempt) reply = Unit {0}
IsLegalReply front (Exited job attempt exit) reply = Unit {0}
IsLegalReply front (ExitUnknown job attempt) reply = Unit {0}
IsLegalReply front TakeSignal reply = IsSignal (signal_reply reply)
IsLegalReply front (SignalDone job attempt kind) reply = Unit {0}
IsLegalReply front (SignalFailed job attempt kind) reply = Unit {0}
IsLegalReply front Other reply = Unit {0}

-- a call made its one entry
pub record Answers (number : ℕ) (asked : Call) (reply : Reply) (mine mine_after : List Act) : Type 0 where
  pub legal : IsLegalReply mine (duty_of asked) reply
  pub mine_is : mine_after ≡ mine ++ entry_of number (duty_of asked) reply ∷ []

-- why a call that made no entry is refused
abbrev pub MayFail : NoEntry → Refusal → Type 0
MayFail fault why = why ≡ refusal_for fault

-- a launch was taken, of a new run
pub record Takes (number : ℕ) (mine mine_after : List Act) (launch : Launch) : Type 0 where
  pub is_new : is_launched launch.job launch.attempt mine ≡ false
  pub mine_is : mine_after ≡ mine ++ entry_of number TakeLaunch (reply.Launch launch) ∷ []

-- one call took this launch
abbrev pub TakesOne : Post → Launch → Post → Type 0
TakesOne old launch new = Succeeds old call.TakeLaunch (reply.Launch launch) new

-- the report of whether a launch began
abbrev pub report_call : Bool → Launch → Duty
report_call true l = Started l.job l.attempt
report_call false l = StartFailed l.job l.attempt

-- the call that it is
abbrev pub asked_start : Bool → Launch → Call
asked_start true l = call.Started l.job l.attempt
asked_start false l = call.StartFailed l.job l.attempt

-- the report of a start, where it made an entry
abbrev pub reports_of : ℕ → Bool → Launch → Option Reply → List Act
reports_of number began l None = []
reports_of number began l (Some answer) = entry_of number (report_call began l) answer ∷ []

-- the report of a start made an entry, or none
abbrev pub Reports : Post → Bool → Launch → Bool → Post → Type 0
Reports old began l true new =
    (answer : Reply) × (acts_at new ≡ acts_at old ++ reports_of (number_of old.client) began l (Some answer)) × Succeeds old (asked_start began l) answer new
Reports old began l false new = acts_at new ≡ acts_at old

-- a child is put into an empty place
pub record PutsAt {T : Type 0} (launch : Launch) (child : T) (old new : Slab (Held T)) : Type 0 where
  pub key : ℕ
  pub was_empty : get old key ≡ None
  pub updates : Updates old new key (Some (record { job = launch.job; attempt = launch.attempt; child = child }))

pub record Puts {T : Type 0} (told : T → Option Told) (launch : Launch) (asked : Option (List Asked)) (fate : ℕ → Fate) (old new : Slab (Held T)) : Type 0 where
  pub child : T
  pub put : PutsAt launch child old new
  pub tells : IfSome asked (λ starts. told child ≡ Some (started_child (length starts) launch.job launch.attempt (fate (length starts))))

-- the list has the new child, and otherwise stays
abbrev pub PutsChild : {T : Type 0} → (T → Option Told) → Launch → Bool → Option (List Asked) → (ℕ → Fate) → Slab (Held T) → Slab (Held T) → Type 0
PutsChild told launch true asked fate old new = Puts told launch asked fate old new
PutsChild told launch false asked fate old new = SameValues old new

-- A launch was taken, its child was asked for with its job, attempt and words, and the start was reported.
pub record Made {T : Type 0} (told : T → Option Told) (number : ℕ) (launch : Launch) (began : Bool) (answer : Option Reply)
    (mine mine_after : List Act) (asked asked_after : Option (List Asked)) (fate fate_after : ℕ → Fate) (old new : Slab (Held T)) : Type 0 where
  pub is_new : is_launched launch.job launch.attempt mine ≡ false
  pub mine_is : mine_after ≡ (mine ++ entry_of number TakeLaunch (reply.Launch launch) ∷ []) ++ reports_of number began launch answer
  pub asked_is : Asks asked (record { job = launch.job; attempt = launch.attempt; words = launch.words; began = began }) asked_after
  pub fate_is : fate_after ≡ fate
  pub puts : PutsChild told launch began asked_after fate_after old new

pub record Nothing {T : Type 0} (mine mine_after : List Act) (asked asked_after : Option (List Asked)) (fate fate_after : ℕ → Fate) (old new : Slab (Held T)) : Type 0 where
  pub mine_is : mine_after ≡ mine
  pub asked_is : asked_after ≡ asked
  pub fate_is : fate_after ≡ fate
  pub same : SameValues old new

-- Why a launch was not taken: the list had no room for a child, and nothing was asked; or the machine made no entry of the
-- take, though it had a launch.
pub data IsMissed (old new : Post) (why : Refusal) : Type 0 where
  no_room : why ≡ OutOfMemory → new ≡ old → IsMissed old new why
  not_taken : (fault : NoEntry) → fault ≢ no.Nothing → Fails old call.TakeLaunch fault new → MayFail fault why → IsMissed old new why

-- A launch was taken and its child asked for, but the report of the start made no entry: it was asked for right after the take,
-- and no other call was.
pub record MadeUnreported {T : Type 0} (told : T → Option Told) (old new : Post) (asked asked_after : Option (List Asked)) (fate fate_after : ℕ → Fate)
    (children children_after : Slab (Held T)) : Type 0 where
  pub launch : Launch
  pub began : Bool
  pub made : Made told (number_of old.client) launch began None (acts_at old) (acts_at new) asked asked_after fate fate_after children children_after
  pub fault : NoEntry
  pub fails : FailsWithin old (asked_start began launch) fault new
  pub taken : acts_at fails.before ≡ acts_at old ++ entry_of (number_of old.client) TakeLaunch (reply.Launch launch) ∷ []
  pub last : fails.after ≡ new
  pub takes : TakesOne old launch fails.before

-- A launch was taken and its child asked for, and the start was reported: these two calls were asked, and no other.
pub record MadeReported {T : Type 0} (told : T → Option Told) (began : Bool) (job : JobId) (old new : Post) (asked asked_after : Option (List Asked)) (fate fate_after : ℕ → Fate)
    (children children_after : Slab (Held T)) : Type 0 where
  pub launch : Launch
  pub of_job : launch.job ≡ job
  pub reply : Reply
  pub made : Made told (number_of old.client) launch began (Some reply) (acts_at old) (acts_at new) asked asked_after fate fate_after children children_after
  pub taken : Post
  pub takes : TakesOne old launch taken
  pub reports : Succeeds taken (asked_start began launch) reply new

-- what a round of the launcher did, by its answer
abbrev pub LaunchSteps : {T : Type 0} → (T → Option Told) → Post → Post → Option (List Asked) → Option (List Asked) → (ℕ → Fate) → (ℕ → Fate)
    → Slab (Held T) → Slab (Held T) → Result Launched Refusal → Type 0
LaunchSteps told old new asked asked2 fate fate2 children children2 (Ok launched.Nothing) = Nothing (acts_at old) (acts_at new) asked asked2 fate fate2 children children2
LaunchSteps told old new asked asked2 fate fate2 children children2 (Ok (launched.Began job)) = MadeReported told true job old new asked asked2 fate fate2 children children2
LaunchSteps told old new asked asked2 fate fate2 children children2 (Ok (launched.StartFailed job)) = MadeReported told false job old new asked asked2 fate fate2 children children2
LaunchSteps told old new asked asked2 fate fate2 children children2 (Err why) =
    (Nothing (acts_at old) (acts_at new) asked asked2 fate fate2 children children2 × IsMissed old new why)
    ⊎ (MadeUnreported told old new asked asked2 fate fate2 children children2 × (why ≡ OutOfMemory))

abbrev pub IsNothing : Launched → Type 0
IsNothing launched.Nothing = Unit {0}
IsNothing (launched.Began job) = ⊥
IsNothing (launched.StartFailed job) = ⊥

abbrev pub IsFailedStart : Launched → Type 0
IsFailedStart launched.Nothing = ⊥
IsFailedStart (launched.Began job) = ⊥
IsFailedStart (launched.StartFailed job) = Unit {0}

-- the spawner's count of faults, before and after a round of the launcher: it rose where the start failed, and else stayed
abbrev pub CountsStart : Launched → ℕ → ℕ → Type 0
CountsStart launched.Nothing before after = after ≡ before
CountsStart (launched.Began job) before after = after ≡ before
CountsStart (launched.StartFailed job) before after = Rose before after

-- Why a round of the launcher is refused: for want of memory, or for a journal that has no room for the entry of the take, of
-- this size.
pub data IsLaunchRefused (old new : Post) (why : Refusal) : Type 0 where
  no_memory : why ≡ OutOfMemory → IsLaunchRefused old new why
  no_space : (size : ℕ) → why ≡ OutOfResource (limit.Journal size) → Fails old call.TakeLaunch (no.Journal size) new → IsLaunchRefused old new why
