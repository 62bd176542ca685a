-- Why a call through a desk is refused: our profile.
use Rattle.std.specs.Prelude.{◌≡◌, ℕ, Bool, true, false, Option, Some, None}
use Rattle.drmaa_types.specs.declared.refusals.Refusal.{Refusal}
use Rattle.drmaa_types.specs.declared.refusals.Refusal.TheVariants as why
use Rattle.drmaa_types.specs.declared.refusals.Limit.TheVariants as limit
use Rattle.drmaa_model.specs.declared.calls.Call.{Call}
use Rattle.drmaa_model.specs.declared.configs.Config.{Config}
use Rattle.drmaa_model.specs.declared.faults.NoEntry.{NoEntry}
use Rattle.drmaa_model.specs.declared.faults.NoEntry.TheVariants as fault
use Rattle.drmaa_model.specs.declared.replies.Reply.TheVariants as reply
use Rattle.drmaa_model.specs.Faults.{refusal_for}
use Rattle.drmaa_model.specs.ReplyKinds.{ReplyKind, nothing_told, a_session, texts, a_job, an_array, jobs, a_state, an_info, a_reached_job, a_reserved, a_reservation, reservations, infos, reservation_infos, a_machine, a_callback, a_launch, a_signal, a_refusal}
use Rattle.call_history.specs.Calls.{IsServed, IsUnserved}
use Rattle.call_history.specs.Clients.{Seat}
use Rattle.call_history.specs.Clocks.{Dial}

-- the refusal that stands for a fault; a call that is always answered has neither of the first two
abbrev pub refusal_of : NoEntry → Option Refusal
refusal_of fault.NotYet = None
refusal_of fault.Nothing = None
refusal_of f = Some (refusal_for f)

-- what is short: room in the journal, where it would have this size and that is too large, or else memory
abbrev pub shortage : Option ℕ → Refusal
shortage None = why.OutOfMemory
shortage (Some size) = why.OutOfResource (limit.Journal size)

-- Refused: by the one entry that the call made, or with no entry, where memory ran out or the journal would be too large.
pub data IsRefused (config : Config) (before : Dial) (old : Seat) (asked : Call) (reason : Refusal) (after : Dial) (new : Seat) : Type 0 where
  by_entry : IsServed before old asked (reply.Refused reason) after new → IsRefused config before old asked reason after new
  by_fault : (f : NoEntry) → refusal_of f ≡ Some reason → IsUnserved config before old asked f after new → IsRefused config before old asked reason after new

-- a call whose reply is of this kind is always answered: it neither waits nor asks for a launch or a signal
abbrev pub is_answered : ReplyKind → Bool
is_answered nothing_told = true
is_answered a_session = true
is_answered texts = true
is_answered a_job = true
is_answered an_array = true
is_answered jobs = true
is_answered a_state = true
is_answered an_info = true
is_answered a_reached_job = false
is_answered a_reserved = true
is_answered a_reservation = true
is_answered reservations = true
is_answered infos = true
is_answered reservation_infos = true
is_answered a_machine = true
is_answered a_callback = true
is_answered a_launch = false
is_answered a_signal = false
is_answered a_refusal = false
