-- Calls that make a session number.
use Rattle.std.specs.Prelude.{◌≡◌, ◌≢◌, ℕ, List, Option, Result, Ok, Err}
use Rattle.drmaa_types.specs.declared.identifiers.SessionId.{SessionId}
use Rattle.drmaa_types.specs.declared.refusals.Refusal.{Refusal}
use Rattle.drmaa_types.specs.declared.refusals.Refusal.TheVariants.{OutOfMemory}
use Rattle.drmaa_types.specs.declared.sessions.SessionKind.{SessionKind}
use Rattle.drmaa_types.specs.declared.sessions.SessionKind.TheVariants.{Jobs, Reservations, Monitoring}
use Rattle.drmaa_model.specs.declared.calls.Call.{Call}
use Rattle.drmaa_model.specs.declared.calls.Call.TheVariants as call
use Rattle.drmaa_model.specs.declared.faults.NoEntry.{NoEntry}
use Rattle.drmaa_model.specs.declared.faults.NoEntry.TheVariants as fault
use Rattle.drmaa_model.specs.declared.replies.Reply.TheVariants as reply
use Rattle.drmaa_model.specs.Time.{advance}
use Rattle.drmaa_model.specs.World.{World, counted}
use Rattle.machine_calls.specs.declared.replies.Replies.{Replies}
use Rattle.machine_calls.specs.Serving.{AreBoth}

-- the call that creates, or opens, a session of a kind that has names
abbrev pub create_call : SessionKind → Option (List ℕ) → Call
create_call Jobs name = call.CreateJobSession name
create_call Reservations name = call.CreateReservationSession name
create_call Monitoring name = call.CreateReservationSession name

abbrev pub open_call : SessionKind → List ℕ → Call
open_call Jobs name = call.OpenJobSession name
open_call Reservations name = call.OpenReservationSession name
open_call Monitoring name = call.OpenReservationSession name

-- a number that was made, or a refusal, is a reply; want of memory leaves everything as it was
abbrev pub Opens : Result SessionId Refusal → World → ℕ → Result Replies NoEntry → World → Type 0
Opens (Ok session) old at result next = (replies : Replies) × (result ≡ Ok replies) × AreBoth replies (reply.Session session) × (next ≡ counted (advance old at))
Opens (Err why) old at result next =
    (why ≡ OutOfMemory → (result ≡ Err fault.OutOfMemory) × (next ≡ old))
    × (why ≢ OutOfMemory → (replies : Replies) × (result ≡ Ok replies) × AreBoth replies (reply.Refused why) × (next ≡ counted (advance old at)))

abbrev pub destroy_call : SessionKind → List ℕ → Call
destroy_call Jobs name = call.DestroyJobSession name
destroy_call Reservations name = call.DestroyReservationSession name
destroy_call Monitoring name = call.DestroyReservationSession name
