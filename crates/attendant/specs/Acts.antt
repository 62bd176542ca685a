-- Histories as launcher and reaper read them: our profile.
use Rattle.std.specs.Prelude.{◌≡◌, ℕ, Bool, false, ◌&&◌, ◌==◌, List, [], ◌∷◌, ◌++◌, map, filter, Option, Some, None}
use Rattle.std.specs.Option.{option_map_or}
use Rattle.std.specs.List.{list_any}
use Rattle.drmaa_types.specs.declared.identifiers.CallerId.{CallerId}
use Rattle.drmaa_types.specs.declared.identifiers.JobId.{JobId}
use Rattle.drmaa_types.specs.declared.states.Exit.{Exit}
use Rattle.drmaa_types.specs.declared.states.SignalKind.{SignalKind}
use Rattle.drmaa_model.specs.declared.calls.Call.{Call}
use Rattle.drmaa_model.specs.declared.calls.Call.TheVariants as call
use Rattle.drmaa_model.specs.declared.entries.Entry.{Entry}
use Rattle.drmaa_model.specs.declared.replies.Launch.{Launch}
use Rattle.drmaa_model.specs.declared.replies.Reply.{Reply}
use Rattle.drmaa_model.specs.declared.replies.Reply.TheVariants as reply
use Rattle.drmaa_model.specs.declared.replies.Signal.{Signal}
use Rattle.call_history.specs.Clients.{Seat, mine_of}

-- a call as launcher and reaper read it: one of theirs, or any other
pub data Duty : Type 0 where
  TakeLaunch : Duty
  Started : (job : JobId) (attempt : ℕ) → Duty
  StartFailed : (job : JobId) (attempt : ℕ) → Duty
  Exited : (job : JobId) (attempt : ℕ) (exit : Exit) → Duty
  ExitUnknown : (job : JobId) (attempt : ℕ) → Duty
  TakeSignal : Duty
  SignalDone : (job : JobId) (attempt : ℕ) (kind : SignalKind) → Duty
  SignalFailed : (job : JobId) (attempt : ℕ) (kind : SignalKind) → Duty
  Other : Duty

abbrev pub duty_of : Call → Duty
duty_of call.TakeLaunch = TakeLaunch
duty_of (call.Started job attempt) = Started job attempt
duty_of (call.StartFailed job attempt) = StartFailed job attempt
duty_of (call.Exited job attempt exit) = Exited job attempt exit
duty_of (call.ExitUnknown job attempt) = ExitUnknown job attempt
duty_of call.TakeSignal = TakeSignal
duty_of (call.SignalDone job attempt kind) = SignalDone job attempt kind
duty_of (call.SignalFailed job attempt kind) = SignalFailed job attempt kind
duty_of _ = Other

-- an entry as they read it
pub record Act : Type 0 where
  pub caller : CallerId
  pub call : Duty
  pub reply : Reply

abbrev pub act_of : Entry → Act
act_of e = record { caller = e.caller; call = duty_of e.call; reply = e.reply }

abbrev pub acts_of : List Entry → List Act
acts_of entries = map act_of entries

-- the entries that a client made itself, as launcher and reaper read them
abbrev pub own_acts : Seat → List Act
own_acts seat = acts_of (mine_of seat)

-- each entry has this property, with the entries before it
abbrev pub EachAfter : (List Act → Act → Type 0) → List Act → List Act → Type 0
EachAfter P front [] = Unit {0}
EachAfter P front (e ∷ es) = P front e × EachAfter P (front ++ e ∷ []) es

abbrev pub Each : (List Act → Act → Type 0) → List Act → Type 0
Each P es = EachAfter P [] es

-- one run of a job
abbrev pub is_run : JobId → ℕ → JobId → ℕ → Bool
is_run job attempt other n = (job.0 == other.0) && (attempt == n)

abbrev pub launch_reply : Reply → Option Launch
launch_reply (reply.Launch launch) = Some launch
launch_reply _ = None

abbrev pub signal_reply : Reply → Option Signal
signal_reply (reply.Signal signal) = Some signal
signal_reply _ = None

-- the launch that an entry hands out
abbrev pub launch_in : Duty → Reply → Option Launch
launch_in TakeLaunch reply = launch_reply reply
launch_in (Started job attempt) reply = None
launch_in (StartFailed job attempt) reply = None
launch_in (Exited job attempt exit) reply = None
launch_in (ExitUnknown job attempt) reply = None
launch_in TakeSignal reply = None
launch_in (SignalDone job attempt kind) reply = None
launch_in (SignalFailed job attempt kind) reply = None
launch_in Other reply = None

abbrev pub launches_run : JobId → ℕ → Act → Bool
launches_run job attempt e = option_map_or (λ (l : Launch). is_run l.job l.attempt job attempt) (launch_in e.call e.reply) false

-- the run was launched in these entries
abbrev pub is_launched : JobId → ℕ → List Act → Bool
is_launched job attempt es = list_any (launches_run job attempt) es

-- a launch of a run that was not launched before
abbrev pub IsNewLaunch : List Act → Option Launch → Type 0
IsNewLaunch front None = ⊥
IsNewLaunch front (Some l) = is_launched l.job l.attempt front ≡ false

abbrev pub IsSignal : Option Signal → Type 0
IsSignal None = ⊥
IsSignal (Some s) = Unit {0}

-- the entries of this caller, in order
abbrev pub of : List Act → ℕ → List Act
of es n = filter (λ (e : Act). e.caller.0 == n) es
