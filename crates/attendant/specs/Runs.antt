-- What lists of entries say of the runs of jobs.
use Rattle.std.specs.Prelude.{◌≡◌, ℕ, Bool, true, false, not, ◌&&◌, List, [], ◌∷◌, Option, Some, None}
use Rattle.std.specs.List.{list_any}
use Rattle.drmaa_types.specs.declared.identifiers.JobId.{JobId}
use Rattle.drmaa_types.specs.declared.states.SignalKind.{SignalKind}
use Rattle.drmaa_types.specs.declared.states.SignalKind.TheVariants.{Stop, Cont, Kill}
use Rattle.attendant.specs.Acts.{Duty}
use Rattle.attendant.specs.Acts.{TakeLaunch, Started, StartFailed, Exited, ExitUnknown, TakeSignal, SignalDone, SignalFailed, Other}
use Rattle.drmaa_model.specs.declared.replies.Reply.{Reply}
use Rattle.attendant.specs.Acts.{Act}
use Rattle.drmaa_model.specs.declared.replies.Launch.{Launch}
use Rattle.drmaa_model.specs.declared.replies.Signal.{Signal}
use Rattle.attendant.specs.Acts.{is_run, launch_in, signal_reply}
use Rattle.attendant.specs.declared.reaper.Hand.{Hand}

-- what a spawner is to be asked for a launch
pub record Request : Type 0 where
  pub job : JobId
  pub attempt : ℕ
  pub words : List (List ℕ)

abbrev pub request_of : Launch → Request
request_of l = record { job = l.job; attempt = l.attempt; words = l.words }

abbrev pub with_request : Option Launch → List Request → List Request
with_request None rest = rest
with_request (Some l) rest = request_of l ∷ rest

-- the launches of these entries, in order
abbrev pub requests_in : List Act → List Request
requests_in [] = []
requests_in (e ∷ es) = with_request (launch_in e.call e.reply) (requests_in es)

-- the launch of the last entry
abbrev pub last_launch : Option Launch → List Act → Option Launch
last_launch o [] = o
last_launch o (e ∷ es) = last_launch (launch_in e.call e.reply) es

abbrev pub just_launched : List Act → Option Launch
just_launched es = last_launch None es

-- the order that was taken last and is not reported
abbrev pub owed_after : Option Signal → Duty → Reply → Option Signal
owed_after o TakeLaunch reply = o
owed_after o (Started job attempt) reply = o
owed_after o (StartFailed job attempt) reply = o
owed_after o (Exited job attempt exit) reply = o
owed_after o (ExitUnknown job attempt) reply = o
owed_after o TakeSignal reply = signal_reply reply
owed_after o (SignalDone job attempt kind) reply = None
owed_after o (SignalFailed job attempt kind) reply = None
owed_after o Other reply = o

abbrev pub owed_from : Option Signal → List Act → Option Signal
owed_from o [] = o
owed_from o (e ∷ es) = owed_from (owed_after o e.call e.reply) es

abbrev pub owed : List Act → Option Signal
owed es = owed_from None es

abbrev pub is_start_report : Bool → JobId → ℕ → Duty → Bool
is_start_report began job attempt TakeLaunch = false
is_start_report began job attempt (Started other n) = began && is_run other n job attempt
is_start_report began job attempt (StartFailed other n) = not began && is_run other n job attempt
is_start_report began job attempt (Exited other n exit) = false
is_start_report began job attempt (ExitUnknown other n) = false
is_start_report began job attempt TakeSignal = false
is_start_report began job attempt (SignalDone other n kind) = false
is_start_report began job attempt (SignalFailed other n kind) = false
is_start_report began job attempt Other = false

-- that the start of a run was reported: as one that began, or as one that failed
abbrev pub is_reported : Bool → JobId → ℕ → List Act → Bool
is_reported began job attempt es = list_any (λ (e : Act). is_start_report began job attempt e.call) es

abbrev pub is_end_report : JobId → ℕ → Duty → Bool
is_end_report job attempt TakeLaunch = false
is_end_report job attempt (Started other n) = false
is_end_report job attempt (StartFailed other n) = false
is_end_report job attempt (Exited other n exit) = is_run other n job attempt
is_end_report job attempt (ExitUnknown other n) = is_run other n job attempt
is_end_report job attempt TakeSignal = false
is_end_report job attempt (SignalDone other n kind) = false
is_end_report job attempt (SignalFailed other n kind) = false
is_end_report job attempt Other = false

-- that the end of a run was reported
abbrev pub is_ended : JobId → ℕ → List Act → Bool
is_ended job attempt es = list_any (λ (e : Act). is_end_report job attempt e.call) es

abbrev pub is_kill : SignalKind → Bool
is_kill Stop = false
is_kill Cont = false
is_kill Kill = true

abbrev pub is_kill_report : JobId → ℕ → Duty → Bool
is_kill_report job attempt TakeLaunch = false
is_kill_report job attempt (Started other n) = false
is_kill_report job attempt (StartFailed other n) = false
is_kill_report job attempt (Exited other n exit) = false
is_kill_report job attempt (ExitUnknown other n) = false
is_kill_report job attempt TakeSignal = false
is_kill_report job attempt (SignalDone other n kind) = is_kill kind && is_run other n job attempt
is_kill_report job attempt (SignalFailed other n kind) = false
is_kill_report job attempt Other = false

-- that a kill of a run was reported as delivered
abbrev pub is_killed : JobId → ℕ → List Act → Bool
is_killed job attempt es = list_any (λ (e : Act). is_kill_report job attempt e.call) es

abbrev pub is_delivered : Option Bool → Bool
is_delivered None = false
is_delivered (Some answer) = answer

-- the order in hand is a kill of this run, which was delivered
abbrev pub hand_kills : Option Hand → JobId → ℕ → Bool
hand_kills None job attempt = false
hand_kills (Some h) job attempt =
    is_delivered h.answer && (is_kill h.signal.kind && is_run h.signal.job h.signal.attempt job attempt)

-- no delivery is unreported
abbrev pub IsUnanswered : Option Hand → Type 0
IsUnanswered None = Unit {0}
IsUnanswered (Some h) = h.answer ≡ None
