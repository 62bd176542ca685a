-- What a call comes to in code.
use Rattle.std.specs.Prelude.{◌≡◌, ℕ, ◌+◌, ◌-◌, ◌<◌, ◌≤◌, min, Bool, true, false, Option, Some, None, IsSomeAnd, Result, Ok, Err, vec_len, vec_capacity}
use Rattle.drmaa_types.specs.declared.refusals.Refusal.{Refusal}
use Rattle.drmaa_types.specs.declared.refusals.Refusal.TheVariants.{Timeout}
use Rattle.drmaa_model.specs.declared.calls.Call.{Call}
use Rattle.drmaa_model.specs.declared.calls.Call.TheVariants as call
use Rattle.drmaa_model.specs.declared.faults.NoEntry.{NoEntry}
use Rattle.drmaa_model.specs.declared.faults.NoEntry.TheVariants as fault
use Rattle.drmaa_model.specs.declared.replies.Reply.{Reply}
use Rattle.drmaa_model.specs.declared.replies.Reply.TheVariants as reply
use Rattle.drmaa_model.specs.Effects.{gives, nothing, not_yet}
use Rattle.drmaa_model.specs.Size.{size}
use Rattle.drmaa_model.specs.Steps.{answer}
use Rattle.drmaa_model.specs.World.{World, counted}
use Rattle.plan_book.specs.declared.occasions.Occasion.{Occasion}
use Rattle.scheduler_core.specs.Facts.{reports_to_come}
use Rattle.machine_readings.specs.declared.store.Store.{Store}
use Rattle.machine_calls.specs.declared.replies.Replies.{Replies}

-- both replies are this one
pub record AreBoth (replies : Replies) (r : Reply) : Type 0 where
  pub told : replies.told ≡ r
  pub recorded : replies.recorded ≡ r

-- Where the journal would be too large, the call says so, whether there is memory or not. What is submitted wants memory first.
abbrev pub is_sized_first : Call → Bool
is_sized_first (call.RunJob session t) = false
is_sized_first (call.RunBulk session t indices) = false
is_sized_first _ = true

-- A call is answered by its step; or nothing changes, since there is nothing to hand out, what is waited for has not come,
-- the journal would be too large, or memory ran out.
pub data Comes (w : World) (at : ℕ) (asked : Call) (result : Result Replies NoEntry) (next : World) : Type 0 where
  answers : (replies : Replies) → result ≡ Ok replies → answer w at asked ≡ gives replies.told next → replies.recorded ≡ replies.told
      → size next ≤ w.config.journal → Comes w at asked result next
  is_full : (r : Reply) (after : World) → result ≡ Err (fault.Journal (size after)) → answer w at asked ≡ gives r after
      → w.config.journal < size after → next ≡ w → Comes w at asked result next
  finds_none : result ≡ Err fault.Nothing → answer w at asked ≡ nothing → next ≡ w → Comes w at asked result next
  waits : result ≡ Err fault.NotYet → answer w at asked ≡ not_yet → next ≡ w → Comes w at asked result next
  is_short : (r : Reply) (after : World) → result ≡ Err fault.OutOfMemory → answer w at asked ≡ gives r after
      → (is_sized_first asked ≡ true → size after ≤ w.config.journal) → next ≡ w → Comes w at asked result next

-- what no call changes, and the memory for the entries
pub record Keeps (s t : Store) : Type 0 where
  pub config : t.config ≡ s.config
  pub items : t.history.items ≡ s.history.items
  pub len : vec_len t.history ≡ vec_len s.history
  pub more : vec_capacity s.history ≤ vec_capacity t.history

-- there is memory for so many entries beside those of the reports that are to come
abbrev pub HasPlace : ℕ → Store → Type 0
HasPlace n s = vec_len s.history + n + reports_to_come s.core.plan.rows ≤ vec_capacity s.history

-- how many more entries there is memory for
abbrev pub places : Store → ℕ
places s = vec_capacity s.history - (vec_len s.history + reports_to_come s.core.plan.rows)

-- and how many more calls that change one job's state at most
abbrev pub spare_of : Store → ℕ
spare_of s = min (places s) s.core.spare

-- how many of them are left once the entry of a call that was served is made
abbrev pub left_of : Store → ℕ
left_of s = min (places s - 1) s.core.spare

-- the occasion of a world's next entry, at this moment
pub record IsNextOccasion (o : Occasion) (w : World) (at : ℕ) : Type 0 where
  pub at_is : o.at ≡ at
  pub entry_is : o.entry ≡ w.entries + 1
  pub limit_is : o.limit ≡ w.config.journal

-- what a look is answered: what is reached, or that the timeout is over
abbrev pub IsLooked : Option ℕ → Bool → Option Replies → Type 0
IsLooked (Some job) over o = IsSomeAnd o (λ (replies : Replies). AreBoth replies (reply.Reached (record { 0 = job })))
IsLooked None true o = IsSomeAnd o (λ (replies : Replies). AreBoth replies (reply.Refused Timeout))
IsLooked None false o = o ≡ None

-- the reply that an operation's answer is
abbrev pub reply_of : {A : Type 0} → (A → Reply) → Result A Refusal → Reply
reply_of tell (Ok a) = tell a
reply_of tell (Err why) = reply.Refused why

-- What an operation of the core has answered, in the world that has its plan: it is a reply, and an entry more; or there is none.
abbrev pub Concludes : {A : Type 0} → (A → Reply) → Result (Result A Refusal) NoEntry → World → Result Replies NoEntry → World → Type 0
Concludes tell (Ok answer) old result next = (replies : Replies) × (result ≡ Ok replies) × AreBoth replies (reply_of tell answer) × (next ≡ counted old)
Concludes tell (Err why) old result next = (result ≡ Err why) × (next ≡ old)
