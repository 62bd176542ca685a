-- Jobs and reservations, from the numbers that a call tells: our profile.
use Rattle.std.specs.Prelude.{◌≡◌, ℕ, List, map}
use Rattle.drmaa_types.specs.declared.identifiers.SessionId.{SessionId}
use Rattle.drmaa_types.specs.declared.refusals.Refusal.{Refusal}
use Rattle.drmaa_types.specs.declared.refusals.Refusal.TheVariants.{OutOfMemory}
use Rattle.drmaa_model.specs.declared.calls.Call.{Call}
use Rattle.drmaa_model.specs.declared.configs.Config.{Config}
use Rattle.drmaa_model.specs.declared.replies.Reply.{Reply}
use Rattle.call_history.specs.Calls.{IsServed}
use Rattle.call_history.specs.Clients.{Seat}
use Rattle.call_history.specs.Clocks.{Dial}
use Rattle.call_history.specs.Refused.{IsRefused}
use Rattle.client_sessions.specs.declared.jobs.Job.{Job}
use Rattle.client_sessions.specs.declared.reservations.Reservation.{Reservation}

-- the jobs of these numbers, in their order, each asked for through the session
abbrev pub jobs_of : SessionId → List ℕ → List Job
jobs_of session numbers = map (λ (number : ℕ). record { session = session; job = record { 0 = number } }) numbers

-- the reservations of these numbers, in their order, each asked for through the session
abbrev pub reservations_of : SessionId → List ℕ → List Reservation
reservations_of session numbers = map (λ (number : ℕ). record { session = session; reservation = record { 0 = number } }) numbers

-- A call that tells numbers gave no list: it was refused; or its one entry tells numbers, for the list of which there was no memory.
pub data IsUnlisted (config : Config) (before : Dial) (old : Seat) (asked : Call) (tell : List ℕ → Reply) (reason : Refusal) (after : Dial) (new : Seat) : Type 0 where
  refused : IsRefused config before old asked reason after new → IsUnlisted config before old asked tell reason after new
  unkept : reason ≡ OutOfMemory → (numbers : List ℕ) → IsServed before old asked (tell numbers) after new → IsUnlisted config before old asked tell reason after new
