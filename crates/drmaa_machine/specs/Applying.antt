-- What becomes of a machine that serves a call: our profile.
use Rattle.std.specs.Prelude.{◌≡◌, ◌⊎◌, ℕ, ◌+◌, ◌<◌, Bool, true, false, List, [], ◌∷◌, ◌++◌, Some, None}
use Rattle.drmaa_types.specs.declared.identifiers.SessionId.{SessionId}
use Rattle.drmaa_types.specs.declared.moments.Timeout.{Timeout}
use Rattle.drmaa_types.specs.declared.refusals.Refusal.{Refusal}
use Rattle.drmaa_types.specs.declared.refusals.Refusal.TheVariants as why
use Rattle.drmaa_types.specs.declared.states.WaitKind.{WaitKind}
use Rattle.drmaa_model.specs.declared.calls.Call.{Call}
use Rattle.drmaa_model.specs.declared.calls.Call.TheVariants as call
use Rattle.drmaa_model.specs.declared.entries.Entry.{Entry}
use Rattle.drmaa_model.specs.declared.replies.Reply.{Reply}
use Rattle.drmaa_model.specs.Consistent.{AddsEdges}
use Rattle.drmaa_model.specs.Effects.{gives}
use Rattle.drmaa_model.specs.History.{Ledger}
use Rattle.drmaa_model.specs.Refusals.{refusal}
use Rattle.drmaa_model.specs.Size.{size}
use Rattle.drmaa_model.specs.Steps.{answer}
use Rattle.drmaa_model.specs.Time.{advance}
use Rattle.drmaa_model.specs.Waiting.{first_reached, is_timed_out}
use Rattle.drmaa_model.specs.World.{World}
use Rattle.scheduler_core.specs.Targets.{is_one_quiet}

-- one entry more
abbrev pub served : Ledger → Entry → Ledger
served ledger entry = record ledger { history = ledger.history ++ entry ∷ [] }

-- the journal would have this size after the call, which is above the greatest
pub record IsTooLarge (w : World) (at : ℕ) (asked : Call) (n : ℕ) : Type 0 where
  pub reply : Reply
  pub after : World
  pub answered : answer w at asked ≡ gives reply after
  pub size_is : n ≡ size after
  pub above : w.config.journal < n

-- each change that one world has more than another is an edge of the state model, from the state that the job had
abbrev pub GoesByEdges : World → World → Type 0
GoesByEdges w next = AddsEdges (w.entries + 1) w.plan next.plan

-- the call is a wait whose timeout is over, and no listed job has reached the state
pub record IsOver (w : World) (at : ℕ) (asked : Call) : Type 0 where
  pub session : SessionId
  pub listed : List ℕ
  pub kind : WaitKind
  pub begun : ℕ
  pub timeout : Timeout
  pub waits : asked ≡ call.Wait session listed kind begun timeout
  pub valid : refusal (advance w at) asked ≡ None
  pub unreached : first_reached kind (advance w at).plan.rows listed ≡ None
  pub over : is_timed_out at begun timeout ≡ true

-- what a call is refused for: the first test of its table that holds, or a timeout
abbrev pub IsRefusedFor : World → ℕ → Call → Refusal → Type 0
IsRefusedFor w at asked reason = (refusal (advance w at) asked ≡ Some reason) ⊎ ((reason ≡ why.Timeout) × IsOver w at asked)

-- the call submits jobs
abbrev pub is_submission : Call → Bool
is_submission (call.RunJob session t) = true
is_submission (call.RunBulk session t indices) = true
is_submission _ = false

-- the memory for the call is taken ahead by `reserve`: it asks for a job's state, or holds or releases one job; no other call is promised that
abbrev pub is_foreseen : Call → Bool
is_foreseen (call.Control session meant what) = is_one_quiet meant what
is_foreseen (call.GetState session job) = true
is_foreseen _ = false

-- the call uses one entry, and one change at most: it neither submits nor launches a job, and holds or releases one at most
abbrev pub is_frugal : Call → Bool
is_frugal (call.RunJob session t) = false
is_frugal (call.RunBulk session t indices) = false
is_frugal (call.Control session meant what) = is_one_quiet meant what
is_frugal call.TakeLaunch = false
is_frugal _ = true

-- the memory for the call is taken when the job is handed out: it reports a start or an end; no other call is promised that
abbrev pub is_run_report : Call → Bool
is_run_report (call.Started job attempt) = true
is_run_report (call.StartFailed job attempt) = true
is_run_report (call.Exited job attempt exit) = true
is_run_report (call.ExitUnknown job attempt) = true
is_run_report _ = false
