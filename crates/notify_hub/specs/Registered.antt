-- What a Register is told, inside a hub's call.
use Rattle.std.specs.Prelude.{◌≡◌, ◌≢◌, ℕ, ◌<◌, ◌≤◌, List, length, Option, Some, None, Result, Ok, Err}
use Rattle.drmaa_types.specs.declared.refusals.Refusal.{Refusal}
use Rattle.drmaa_model.specs.declared.configs.Config.{Config}
use Rattle.drmaa_model.specs.declared.entries.Entry.{Entry}
use Rattle.drmaa_model.specs.declared.faults.NoEntry.{NoEntry}
use Rattle.drmaa_model.specs.declared.replies.Reply.{Reply}
use Rattle.drmaa_model.specs.declared.replies.Reply.TheVariants as reply
use Rattle.drmaa_model.specs.Faults.{refusal_for}
use Rattle.drmaa_model.specs.ReplyKinds.{kind_of_reply, a_callback, a_refusal}
use Rattle.change_callbacks.specs.Places.{changes_of, place_of, registrations_of, AreCountable}

-- a reply that is no callback's number is told as its refusal
pub record IsRefusal (told : Reply) (why : Refusal) : Type 0 where
  pub refused : kind_of_reply told ≡ a_refusal → told ≡ reply.Refused why
  pub unregistered : kind_of_reply told ≢ a_callback

-- what is told where no callback was registered: the refusal of the entry, or the one that stands for a fault
abbrev pub TellsNone : Result (ℕ × Reply) NoEntry → Refusal → Type 0
TellsNone (Ok made) why = IsRefusal made.1 why
TellsNone (Err f) why = why ≡ refusal_for f

-- The last entry of the longer history registers the number n, which the shorter one does not; its place is at the end.
pub record IsNew (config : Config) (before : List Entry) (n : ℕ) (after : List Entry) : Type 0 where
  pub number : n ≡ registrations_of config after
  pub unknown : registrations_of config before < n
  pub most : n ≤ 64
  pub place : place_of config after n ≡ Some (length (changes_of config after))

-- a place was counted, unless there are more changes than a number of 64 bits tells
abbrev pub IsCounted : Config → ℕ → List Entry → Option ℕ → Type 0
IsCounted config here seen (Some place) = place ≡ here
IsCounted config here seen None = AreCountable config seen → ⊥
