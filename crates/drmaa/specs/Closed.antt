-- What a machine leaves, at which a caller worked: by its history alone. The callers are 0, the work's first client; 1, the
-- launcher; 2, the reaper; 3, the hub; and those from 4 on, where the work has more clients than one. Our profile.
use Rattle.std.specs.Prelude.{◌≡◌, ℕ, ◌+◌, ◌<◌, true, List, [], ◌∷◌, length, slice_index_or, Option}
use Rattle.std.specs.List.{AllByRecursion}
use Rattle.drmaa_types.specs.declared.changes.Notification.{Notification}
use Rattle.drmaa_types.specs.declared.identifiers.JobId.{JobId}
use Rattle.drmaa_types.specs.declared.refusals.Limit.TheVariants as limit
use Rattle.drmaa_types.specs.declared.refusals.Refusal.{Refusal}
use Rattle.drmaa_types.specs.declared.refusals.Refusal.TheVariants.{OutOfResource, OutOfMemory}
use Rattle.drmaa_model.specs.declared.calls.Call.TheVariants.{Register}
use Rattle.drmaa_model.specs.declared.configs.Config.{Config}
use Rattle.drmaa_model.specs.declared.entries.Entry.{Entry}
use Rattle.drmaa_model.specs.declared.replies.Reply.TheVariants.{Callback}
use Rattle.drmaa_model.specs.Heard.{heard}
use Rattle.drmaa_model.specs.History.{IsLegal, replay}
use Rattle.drmaa_model.specs.NextLaunch.{settled}
use Rattle.drmaa_model.specs.SettledLaws.{IsQuiet}
use Rattle.drmaa_model.specs.Time.{advance}
use Rattle.call_history.specs.Callers.{calls_of}
use Rattle.attendant.specs.Acts.{Other, acts_of, duty_of, Each, is_launched}
use Rattle.attendant.specs.Outside.{IsLaunchersEntry, IsReapersEntry}
use Rattle.attendant.specs.Runs.{is_ended}
use Rattle.change_callbacks.specs.Hearing.{HasHeard}
use Rattle.drmaa.specs.Works.{caller_at}

-- why launcher and reaper are refused: for want of memory, or since the journal would have this size
pub data IsShort (why : Refusal) : Type 0 where
  of_memory : why ≡ OutOfMemory → IsShort why
  of_journal : (size : ℕ) → why ≡ OutOfResource (limit.Journal size) → IsShort why

-- why no callback is registered
pub data CannotBegin (why : Refusal) : Type 0 where
  short : IsShort why → CannotBegin why
  callbacks : why ≡ OutOfResource limit.Callbacks → CannotBegin why

-- these entries register callbacks under this number, the next one and so on
abbrev pub RegistersFrom : ℕ → List Entry → Type 0
RegistersFrom n [] = Unit {0}
RegistersFrom n (e ∷ es) = (e.call ≡ Register) × (e.reply ≡ Callback n) × RegistersFrom (n + 1) es

-- One history of all callers, of a work with so many clients.
pub record IsHistory (config : Config) (callbacks clients : ℕ) (history : List Entry) : Type 0 where
  -- replayed on the machine that was asked for, it gives every reply
  pub legal : IsLegal config history
  -- the launcher takes launches, and reports a start right after its launch; the reaper takes orders, reports each once after it was
  -- taken, and reports an end once, of a run that was launched
  pub launcher : Each IsLaunchersEntry (acts_of (calls_of history 1))
  pub reaper : Each IsReapersEntry (acts_of (calls_of history 2))
  pub ended : (job : JobId) (attempt : ℕ) → is_ended job attempt (acts_of (calls_of history 2)) ≡ true → is_launched job attempt (acts_of (calls_of history 1)) ≡ true
  -- the hub registers the callbacks, in their order
  pub hub : RegistersFrom 1 (calls_of history 3)
  pub callbacks_are : length (calls_of history 3) ≡ callbacks
  -- nobody else has an entry
  pub strangers : (caller : ℕ) → clients + 2 < caller → calls_of history caller ≡ []

-- At the end no job holds slots and no order stands, and at some moment the machine would be settled.
pub record IsAtRest (config : Config) (history : List Entry) : Type 0 where
  pub quiet : IsQuiet (replay config history).plan
  pub at : ℕ
  pub settled_is : settled (advance (replay config history) at).plan ≡ true

-- none of these calls is one of the launcher's or of the reaper's
abbrev pub AsksAsClient : List Entry → Type 0
AsksAsClient es = AllByRecursion (λ (e : Entry). duty_of e.call ≡ Other) es

-- no client of a work, of so many, made one of their calls
abbrev pub AllAskAsClients : ℕ → List Entry → Type 0
AllAskAsClients clients history = (place : ℕ) → place < clients → AsksAsClient (calls_of history (caller_at place))

-- Between the two lists each callback heard exactly what the history has for its number, which counts from 1.
pub record HaveHeardAll {B : Type 0} (counted : B → ℕ) (told : B → Option (List Notification)) (config : Config) (history : List Entry) (before after : List B) : Type 0 where
  pub as_many : length after ≡ length before
  pub each : (i : ℕ) (d : B) → i < length before → HasHeard counted told (slice_index_or before i d) (slice_index_or after i d) (heard config history (i + 1))
