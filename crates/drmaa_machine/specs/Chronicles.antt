-- The machine as a value that keeps a history: what it is asked, how its entries stand in the history of a lock, and why a
-- call makes none. Our profile.
use Rattle.std.specs.Prelude.{◌≡◌, ℕ, true, None, List, map}
use Rattle.drmaa_types.specs.declared.chronicles.ChronicleEntry.{ChronicleEntry}
use Rattle.drmaa_types.specs.declared.identifiers.CallerId.{CallerId}
use Rattle.drmaa_model.specs.declared.calls.Call.{Call}
use Rattle.drmaa_model.specs.declared.configs.Config.{Config}
use Rattle.drmaa_model.specs.declared.entries.Entry.{Entry}
use Rattle.drmaa_model.specs.declared.faults.NoEntry.{NoEntry}
use Rattle.drmaa_model.specs.declared.faults.NoEntry.TheVariants as fault
use Rattle.drmaa_model.specs.declared.replies.Reply.{Reply}
use Rattle.drmaa_model.specs.Effects.{nothing, not_yet}
use Rattle.drmaa_model.specs.History.{IsLegal, replay}
use Rattle.drmaa_model.specs.RecordedCalls.{recorded}
use Rattle.drmaa_model.specs.Refusals.{refusal}
use Rattle.drmaa_model.specs.Steps.{answer}
use Rattle.drmaa_model.specs.Time.{advance}
use Rattle.drmaa_model.specs.World.{World}
use Rattle.drmaa_machine.specs.declared.chronicles.Ask.{Ask}
use Rattle.drmaa_machine.specs.Applying.{IsTooLarge, is_submission, is_run_report}

-- an entry, as a lock's history has it
abbrev pub told : Entry → ChronicleEntry Ask Reply
told e = record { caller = e.caller; ask = record { at = e.at; call = e.call }; answer = e.reply }

-- an entry of a lock's history, as the machine has it
abbrev pub untold : ChronicleEntry Ask Reply → Entry
untold e = record { caller = e.caller; at = e.ask.at; call = e.ask.call; reply = e.answer }

-- the entries of a lock's history
abbrev pub history_of : List (ChronicleEntry Ask Reply) → List Entry
history_of entries = map untold entries

-- what is recorded of what is asked: the recorded call, at the same moment
abbrev pub recorded_ask : Ask → Ask
recorded_ask ask = record { at = ask.at; call = recorded ask.call }

-- the entries of a lock's history are legal
abbrev pub IsLegalTold : Config → List (ChronicleEntry Ask Reply) → Type 0
IsLegalTold config entries = IsLegal config (history_of entries)

-- memory may only run out for a call that is answered, and that the journal has room for or that submits jobs
pub record MayWant (w : World) (at : ℕ) (asked : Call) : Type 0 where
  pub waits_not : answer w at asked ≡ not_yet → ⊥
  pub finds : answer w at asked ≡ nothing → ⊥
  pub fits : (n : ℕ) → IsTooLarge w at asked n → is_submission asked ≡ true

-- what each fault says of the world and the call
abbrev pub Explains : World → ℕ → Call → NoEntry → Type 0
Explains w at asked fault.OutOfMemory = MayWant w at asked
Explains w at asked fault.NotYet = answer w at asked ≡ not_yet
Explains w at asked fault.Nothing = answer w at asked ≡ nothing
Explains w at asked (fault.Journal n) = IsTooLarge w at asked n

-- Why a call makes no entry in a world. An accepted report of a start or of an end always makes one.
pub record MakesNone (w : World) (at : ℕ) (asked : Call) (why : NoEntry) : Type 0 where
  pub cause : Explains w at asked why
  pub unreported : is_run_report asked ≡ true → refusal (advance w at) asked ≡ None → ⊥

-- the same after the entries of a lock's history, to whoever asks
abbrev pub FailsTold : Config → List (ChronicleEntry Ask Reply) → CallerId → Ask → NoEntry → Type 0
FailsTold config entries caller ask why = MakesNone (replay config (history_of entries)) ask.at (recorded ask.call) why
