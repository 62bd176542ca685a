-- What a call through a client comes to: our profile.
use Rattle.std.specs.Prelude.{◌≡◌, ℕ}
use Rattle.drmaa_model.specs.declared.calls.Call.{Call}
use Rattle.drmaa_model.specs.declared.configs.Config.{Config}
use Rattle.drmaa_model.specs.declared.entries.Entry.{Entry}
use Rattle.drmaa_model.specs.declared.faults.NoEntry.{NoEntry}
use Rattle.drmaa_model.specs.declared.looks.Answer.{Answer}
use Rattle.drmaa_model.specs.declared.looks.Question.{Question}
use Rattle.drmaa_model.specs.declared.replies.Reply.{Reply}
use Rattle.drmaa_model.specs.History.{replay}
use Rattle.drmaa_model.specs.RecordedCalls.{recorded}
use Rattle.drmaa_model.specs.Time.{advance}
use Rattle.drmaa_machine.specs.Chronicles.{MakesNone}
use Rattle.drmaa_machine.specs.Looks.{IsAnswer}
use Rattle.turn_lock.specs.Tokens.{FindsBusy}
use Rattle.call_history.specs.declared.tries.TryFault.{TryFault}
use Rattle.call_history.specs.declared.tries.TryFault.TheVariants as fault
use Rattle.call_history.specs.Clients.{Seat, seen_of, number_of, SeesMore, Makes}
use Rattle.call_history.specs.Clocks.{Dial, IsReading}

-- the entry that a client makes of a call
abbrev pub entry_by : ℕ → ℕ → Call → Reply → Entry
entry_by number at asked reply = record { caller = record { 0 = number }; at = at; call = recorded asked; reply = reply }

-- The call was served at one reading of the clock, with one entry.
pub record IsServed (before : Dial) (old : Seat) (asked : Call) (reply : Reply) (after : Dial) (new : Seat) : Type 0 where
  pub at : ℕ
  pub read : IsReading before at after
  pub made : Makes old (entry_by (number_of old) at asked reply) new

-- The call made no entry at one reading of the clock: the machine had no answer for it after all that the client has now seen.
pub record IsUnserved (config : Config) (before : Dial) (old : Seat) (asked : Call) (why : NoEntry) (after : Dial) (new : Seat) : Type 0 where
  pub at : ℕ
  pub read : IsReading before at after
  pub more : SeesMore old new
  pub reason : MakesNone (replay config (seen_of new)) at (recorded asked) why

-- The question was answered at one reading of the clock, for the world of all that the client has now seen.
pub record IsLookedAt (config : Config) (before : Dial) (old : Seat) (question : Question) (answer : Answer) (after : Dial) (new : Seat) : Type 0 where
  pub at : ℕ
  pub read : IsReading before at after
  pub more : SeesMore old new
  pub told : IsAnswer (advance (replay config (seen_of new)) at) (replay config (seen_of new)) question answer

-- Another client's ticket was before this one's: nothing was read, seen or made.
pub record IsBusy (before : Dial) (old : Seat) (served drawn : ℕ) (after : Dial) (new : Seat) : Type 0 where
  pub busy : FindsBusy old new served drawn
  pub unread : after ≡ before

-- why a try made no entry
abbrev pub IsTriedInVain : Config → Dial → Seat → Call → Dial → Seat → TryFault → Type 0
IsTriedInVain config before old asked after new (fault.Busy served drawn) = IsBusy before old served drawn after new
IsTriedInVain config before old asked after new (fault.Not why) = IsUnserved config before old asked why after new
