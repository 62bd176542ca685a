-- What a call comes to that a machine serves: the clauses of `Machine::apply`, over what it has served. The call is as an
-- entry keeps it.
use Rattle.std.specs.Prelude.{◌≡◌, ◌≢◌, ◌↔◌, ◌⊎◌, ℕ, true, Some, Result, Ok, Err, IfOk, OnOk, OnErr}
use Rattle.drmaa_types.specs.declared.identifiers.CallerId.{CallerId}
use Rattle.drmaa_types.specs.declared.refusals.Refusal.{Refusal}
use Rattle.drmaa_types.specs.declared.refusals.Refusal.TheVariants as why
use Rattle.drmaa_model.specs.declared.calls.Call.{Call}
use Rattle.drmaa_model.specs.declared.calls.Call.TheVariants as call
use Rattle.drmaa_model.specs.declared.entries.Entry.{Entry}
use Rattle.drmaa_model.specs.declared.faults.NoEntry.{NoEntry}
use Rattle.drmaa_model.specs.declared.faults.NoEntry.TheVariants as fault
use Rattle.drmaa_model.specs.declared.replies.Reply.{Reply}
use Rattle.drmaa_model.specs.declared.replies.Reply.TheVariants as reply
use Rattle.drmaa_model.specs.declared.rows.Row.{Row}
use Rattle.drmaa_model.specs.Effects.{nothing, not_yet}
use Rattle.drmaa_model.specs.History.{Ledger, now_of}
use Rattle.drmaa_model.specs.Honoured.{IsOnTime, IsDueInside}
use Rattle.drmaa_model.specs.Refusals.{refusal}
use Rattle.drmaa_model.specs.Steps.{answer, IsStep}
use Rattle.drmaa_model.specs.Time.{advance}
use Rattle.drmaa_model.specs.WaitLaws.{HandsOut, SendsOut}
use Rattle.drmaa_model.specs.World.{World, counted}
use Rattle.drmaa_machine.specs.Applying.{served, IsTooLarge, GoesByEdges, IsOver, IsRefusedFor, is_submission}

-- the entry of a call, which is as an entry keeps it
abbrev pub entry_of : CallerId → ℕ → Call → Reply → Entry
entry_of caller at asked r = record { caller = caller; at = at; call = asked; reply = r }

-- what a call comes to in a world
pub record ComesTo (w : World) (caller : CallerId) (at : ℕ) (asked : Call) (result : Result Reply NoEntry) (next : World) : Type 0 where
  pub step : IfOk result (λ (r : Reply). IsStep w (entry_of caller at asked r) next)
  pub waits : (result ≡ Err fault.NotYet) ↔ (answer w at asked ≡ not_yet)
  pub finds_nothing : (result ≡ Err fault.Nothing) ↔ (answer w at asked ≡ nothing)
  pub full : (n : ℕ) → result ≡ Err (fault.Journal n) → IsTooLarge w at asked n
  pub above : (n : ℕ) → IsTooLarge w at asked n → (result ≡ Err (fault.Journal n)) ⊎ ((result ≡ Err fault.OutOfMemory) × (is_submission asked ≡ true))
  pub refuses : (reason : Refusal) → refusal (advance w at) asked ≡ Some reason → IfOk result (λ (r : Reply). r ≡ reply.Refused reason)
  pub over : IsOver w at asked → IfOk result (λ (r : Reply). r ≡ reply.Refused why.Timeout)
  pub refused : (reason : Refusal) → result ≡ Ok (reply.Refused reason) → IsRefusedFor w at asked reason × (next ≡ counted (advance w at))
  pub edges : OnOk result (GoesByEdges w next)
  pub launch : asked ≡ call.TakeLaunch → IfOk result (λ (r : Reply). HandsOut (advance w at) r next)
  pub signal : asked ≡ call.TakeSignal → IfOk result (λ (r : Reply). SendsOut (advance w at) r next)
  pub honoured : (row : Row) → asked ≡ call.TakeLaunch → IsOnTime (advance w at).plan → IsDueInside (advance w at).plan row → result ≢ Err fault.Nothing

-- what becomes of a ledger
pub record Applies (old : Ledger) (caller : CallerId) (at : ℕ) (asked : Call) (result : Result Reply NoEntry) (new : Ledger) : Type 0 where
  pub entry : IfOk result (λ (r : Reply). new ≡ served old (entry_of caller at asked r))
  pub err : OnErr result (new ≡ old)
  pub comes : ComesTo (now_of old) caller at asked result (now_of new)
