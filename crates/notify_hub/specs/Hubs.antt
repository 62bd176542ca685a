-- A hub as contracts see it, and what its calls do: our profile.
use Rattle.std.specs.Prelude.{◌≡◌, ℕ, ◌≤◌, ◌-◌, List, [], length, take, sum_by, slice_set, Option, Some, None}
use Rattle.std.specs.Option.{option_map_or}
use Rattle.drmaa_types.specs.declared.changes.Notification.{Notification}
use Rattle.drmaa_types.specs.declared.refusals.Limit.TheVariants as resource
use Rattle.drmaa_types.specs.declared.refusals.Refusal.{Refusal}
use Rattle.drmaa_types.specs.declared.refusals.Refusal.TheVariants.{OutOfResource}
use Rattle.drmaa_model.specs.declared.calls.Call.TheVariants.{Register}
use Rattle.drmaa_model.specs.declared.configs.Config.{Config}
use Rattle.drmaa_model.specs.declared.entries.Entry.{Entry}
use Rattle.drmaa_model.specs.declared.faults.NoEntry.{NoEntry}
use Rattle.drmaa_model.specs.declared.replies.Reply.TheVariants.{Callback, Refused}
use Rattle.drmaa_model.specs.History.{IsLegal}
use Rattle.turn_lock.specs.Histories.{BeginsWith}
use Rattle.turn_lock.specs.Tokens.{Named, BelongsTo, IsFree}
use Rattle.call_history.specs.Calls.{IsServed, IsUnserved}
use Rattle.call_history.specs.Clients.{Seat, seen_of, mine_of, number_of, KnowsItsOwn, SeesMore}
use Rattle.call_history.specs.Clocks.{Dial}
use Rattle.call_history.specs.Refused.{refusal_of}
use Rattle.call_history.specs.Timed.{StaysTimed}
use Rattle.change_callbacks.specs.Ears.{Listening, HaveHeard, from_place}
use Rattle.change_callbacks.specs.Places.{registrations_of, Follows, HavePlaces}

-- a hub: its ears, and the note of what its calls have seen; none before the first one
pub record Following (B : Type 0) : Type 0 where
  pub ears : Listening B
  pub note : Option Seat

-- the history that was seen at a note: none before the first call
abbrev pub noted : Option Seat → List Entry
noted note = option_map_or seen_of note []

-- the note is of this machine, where there is one
abbrev pub IsNoteOf : Named Config → Option Seat → Type 0
IsNoteOf shared None = Unit {0}
IsNoteOf shared (Some note) = BelongsTo shared note

-- the configuration that a note tells; before the first call it may be any
abbrev pub MayBe : Config → Option Seat → Type 0
MayBe config None = Unit {0}
MayBe config (Some note) = note.view.fixed ≡ Some config

-- What a hub keeps: each place given is that of its Register entry in the history of its note, and the changes handed over are
-- the first ones of that history.
abbrev pub FollowsNote : {B : Type 0} → Listening B → Option Seat → Type 0
FollowsNote ears note = (config : Config) → MayBe config note → Follows config (noted note) ears

-- beside that a hub knows how many changes it handed over
pub record IsHub {B : Type 0} (ears : Listening B) (note : Option Seat) (handed : ℕ) : Type 0 where
  pub counted : handed ≡ length ears.handed
  pub follows : FollowsNote ears note

-- the note is of this machine, and was left when this was seen
pub record IsNoteAt (shared : Named Config) (seen : List Entry) (note : Option Seat) : Type 0 where
  pub own : IsNoteOf shared note
  pub seen_is : noted note ≡ seen

-- the number n has its place, where it is known
abbrev pub with_place : {B : Type 0} → Listening B → ℕ → Option ℕ → Listening B
with_place ears n place = record ears { places = slice_set ears.places (n - 1) place }

-- how many calls were made in all: for each callback one for each change that it heard
abbrev pub calls_made : {B : Type 0} → Listening B → ℕ
calls_made ears = sum_by (λ place. length (from_place ears.handed place)) (take (length ears.callbacks) ears.places)

-- A stretch of calls of a hub's client, of which each Register went by the hub: the note is of what the client has seen, or of less,
-- no callback is lost, each heard what was handed over, and the numbers that the client's entries registered have their places.
pub record RegistersOn {B : Type 0} (counted : B → ℕ) (told : B → Option (List Notification)) (shared : Named Config) (old : Following B) (client : Seat) (new : Following B) (after : Seat) : Type 0 where
  pub note : IsNoteOf shared new.note
  pub known : BeginsWith (seen_of client) (noted old.note) → BeginsWith (seen_of after) (noted new.note)
  pub begun : new.ears.begun ≡ old.ears.begun
  pub follows : FollowsNote old.ears old.note → FollowsNote new.ears new.note
  pub heard : HaveHeard counted told old.ears → HaveHeard counted told new.ears
  pub placed : HavePlaces (mine_of client) old.ears.places → HavePlaces (mine_of after) new.ears.places

-- The client looked, and made no entry: it has seen more, and read its clock, which does not fall.
pub record LooksOn (shared : Named Config) (before : Dial) (old : Seat) (after : Dial) (new : Seat) : Type 0 where
  pub client : IsFree shared new
  pub number : number_of new ≡ number_of old
  pub more : SeesMore old new
  pub own : KnowsItsOwn new
  pub legal : IsLegal shared.fixed (seen_of new)
  pub rises : before.least ≤ after.least
  pub timed : StaysTimed (mine_of old) before.given (mine_of new) after.given

-- The client made one Register entry, whose reply is this number: the number of callbacks then registered, at most 64. After
-- that it looked, and made no entry.
pub record IsRegistered (config : Config) (before : Dial) (old : Seat) (n : ℕ) (after : Dial) (new : Seat) : Type 0 where
  pub read : Dial
  pub seat : Seat
  pub entry : IsServed before old Register (Callback n) read seat
  pub number : n ≡ registrations_of config (seen_of seat)
  pub most : n ≤ 64
  pub looked : SeesMore seat new
  pub rises : read.least ≤ after.least

-- Why a Register registers nothing: its one entry is refused, since 64 callbacks are registered; or there is no entry, where
-- memory ran out or the journal would be too large.
pub data IsUnregistered (config : Config) (before : Dial) (old : Seat) (why : Refusal) (after : Dial) (new : Seat) : Type 0 where
  by_entry : why ≡ OutOfResource resource.Callbacks → IsServed before old Register (Refused why) after new → registrations_of config (seen_of new) ≡ 64 → IsUnregistered config before old why after new
  by_fault : (f : NoEntry) → refusal_of f ≡ Some why → IsUnserved config before old Register f after new → IsUnregistered config before old why after new
