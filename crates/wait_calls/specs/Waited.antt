-- What a wait of many looks comes to: our profile.
use Rattle.std.specs.Prelude.{◌≡◌, ℕ, ◌≤◌, List, [], ◌∷◌, ◌++◌, map, Some, None, Result, Ok, Err}
use Rattle.drmaa_types.specs.declared.identifiers.JobId.{JobId}
use Rattle.drmaa_types.specs.declared.identifiers.SessionId.{SessionId}
use Rattle.drmaa_types.specs.declared.moments.Timeout.{Timeout}
use Rattle.drmaa_types.specs.declared.refusals.Refusal.{Refusal}
use Rattle.drmaa_types.specs.declared.states.WaitKind.{WaitKind}
use Rattle.drmaa_model.specs.declared.calls.Call.{Call}
use Rattle.drmaa_model.specs.declared.calls.Call.TheVariants as call
use Rattle.drmaa_model.specs.declared.configs.Config.{Config}
use Rattle.drmaa_model.specs.declared.entries.Entry.{Entry}
use Rattle.drmaa_model.specs.declared.faults.NoEntry.{NoEntry}
use Rattle.drmaa_model.specs.declared.replies.Reply.{Reply}
use Rattle.drmaa_model.specs.declared.replies.Reply.TheVariants as reply
use Rattle.drmaa_model.specs.Effects.{not_yet}
use Rattle.drmaa_model.specs.Faults.{refusal_for}
use Rattle.drmaa_model.specs.History.{replay}
use Rattle.drmaa_model.specs.RecordedCalls.{recorded}
use Rattle.drmaa_model.specs.Refusals.{refusal}
use Rattle.drmaa_model.specs.ReplyKinds.{kind_of_reply, a_reached_job, a_refusal}
use Rattle.drmaa_model.specs.Steps.{answer}
use Rattle.drmaa_model.specs.Time.{advance}
use Rattle.drmaa_model.specs.Waiting.{first_reached}
use Rattle.drmaa_model.specs.World.{World}
use Rattle.drmaa_machine.specs.Applying.{IsRefusedFor}
use Rattle.drmaa_machine.specs.Chronicles.{MakesNone}
use Rattle.turn_lock.specs.Histories.{BeginsWith}
use Rattle.call_history.specs.Calls.{entry_by}
use Rattle.call_history.specs.Clients.{Seat, seen_of, number_of, SeesMore, Makes}
use Rattle.call_history.specs.Clocks.{Dial, Gives}
use Rattle.call_history.specs.Refused.{refusal_of}

-- a look: its reading of the clock, and what the client had seen at it
pub record Look : Type 0 where
  pub at : ℕ
  pub seen : List Entry

abbrev pub readings_of : List Look → List ℕ
readings_of looks = map (λ (l : Look). l.at) looks

-- readings from one moment to another, none below the one before it
abbrev pub Climb : ℕ → List ℕ → ℕ → Type 0
Climb from [] to = from ≤ to
Climb from (reading ∷ readings) to = (from ≤ reading) × Climb reading readings to

-- Each look found that the wait was not over, at its reading, after no less than was seen before it; all that they saw is a
-- beginning of what is seen at the end.
abbrev pub AreEarly : Config → Call → List Entry → List Look → List Entry → Type 0
AreEarly config asked before [] after = BeginsWith after before
AreEarly config asked before (look ∷ looks) after = BeginsWith look.seen before × (answer (replay config look.seen) look.at asked ≡ not_yet) × AreEarly config asked look.seen looks after

-- A wait: its first reading is that of its beginning, and each look took one more. The last look decided it; the others came
-- too early.
pub record IsWaited (config : Config) (before : Dial) (old : Seat) (asked : ℕ → Call) (Decides : Call → ℕ → Type 0) (after : Dial) (new : Seat) : Type 0 where
  pub begun : ℕ
  pub looks : List Look
  pub last : ℕ
  pub gave : Gives before.given (begun ∷ (readings_of looks ++ last ∷ [])) after.given
  pub least : before.least ≤ begun
  pub climb : Climb begun (readings_of looks) last
  pub rising : last ≤ after.least
  pub early : AreEarly config (asked begun) (seen_of old) looks (seen_of new)
  pub decided : Decides (asked begun) last

-- the wait made this one entry, at its last reading
abbrev pub Answers : Seat → Reply → Seat → Call → ℕ → Type 0
Answers old told new asked last = Makes old (entry_by (number_of old) last asked told) new

-- at a moment, in a world, this is the first job that a wait lists that has reached the state
pub record IsReached (w : World) (at : ℕ) (asked : Call) (job : JobId) : Type 0 where
  pub session : SessionId
  pub listed : List ℕ
  pub kind : WaitKind
  pub begun : ℕ
  pub timeout : Timeout
  pub waits : asked ≡ call.Wait session listed kind begun timeout
  pub valid : refusal (advance w at) asked ≡ None
  pub first : first_reached kind (advance w at).plan.rows listed ≡ Some job.0

-- Reached at the last reading: the one entry answers the first listed job that has reached the state, after what was seen and
-- entries of others.
pub record Reaches (config : Config) (old : Seat) (job : JobId) (new : Seat) (asked : Call) (last : ℕ) : Type 0 where
  pub made : Answers old (reply.Reached job) new asked last
  pub first : IsReached (replay config (seen_of old ++ made.between)) last asked job

-- Refused at the last reading: by the one entry, after what was seen and entries of others, for the first test of the wait's
-- table that holds there, or since its time is over and no listed job has reached the state; or with none, where memory ran out
-- or the journal would be too large after all that was seen.
pub data Refuses (config : Config) (old : Seat) (why : Refusal) (new : Seat) (asked : Call) (last : ℕ) : Type 0 where
  by_entry : (made : Answers old (reply.Refused why) new asked last) → IsRefusedFor (replay config (seen_of old ++ made.between)) last asked why → Refuses config old why new asked last
  by_fault : (f : NoEntry) → refusal_of f ≡ Some why → SeesMore old new → MakesNone (replay config (seen_of new)) last (recorded asked) f → Refuses config old why new asked last

-- what a wait is told where it is not told a job: its refusal, and never another reply
pub record IsRefusal (told : Reply) (why : Refusal) : Type 0 where
  pub refused : kind_of_reply told ≡ a_refusal → told ≡ reply.Refused why
  pub unreached : kind_of_reply told ≡ a_reached_job → ⊥

-- the refusal that a wait is told: that of its entry, or the one that stands for its fault
abbrev pub Tells : Result Reply NoEntry → Refusal → Type 0
Tells (Ok told) why = IsRefusal told why
Tells (Err f) why = why ≡ refusal_for f
