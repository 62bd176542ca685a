-- What a call is answered that only reads.
use Rattle.std.specs.Prelude.{◌≡◌, ℕ, Bool, true, false}
use Rattle.drmaa_model.specs.declared.calls.Call.{Call}
use Rattle.drmaa_model.specs.declared.calls.Call.TheVariants as call
use Rattle.drmaa_model.specs.declared.replies.Reply.{Reply}
use Rattle.drmaa_model.specs.Effects.{makes}
use Rattle.drmaa_model.specs.Steps.{answer}
use Rattle.machine_readings.specs.declared.store.Store.{Store}
use Rattle.machine_readings.specs.Stores.{world_of, world_at}

-- The reply to a call that changes no more than time.
abbrev pub IsReply : Store → ℕ → Call → Reply → Type 0
IsReply s at asked r = answer (world_of s) at asked ≡ makes r (world_at at s)

-- the call only reads
abbrev pub is_reading : Call → Bool
is_reading call.JobSessionNames = true
is_reading call.ReservationSessionNames = true
is_reading (call.GetJobs session filter) = true
is_reading (call.GetJobArray session array) = true
is_reading (call.GetState session job) = true
is_reading (call.GetInfo session job) = true
is_reading (call.GetReservation session number) = true
is_reading (call.GetReservations session) = true
is_reading (call.AllJobs session filter) = true
is_reading (call.AllReservations session) = true
is_reading (call.AllQueues session) = true
is_reading (call.AllMachines session) = true
is_reading _ = false

-- it asks for a reservation or for monitoring
abbrev pub is_other : Call → Bool
is_other (call.GetReservation session number) = true
is_other (call.GetReservations session) = true
is_other (call.AllJobs session filter) = true
is_other (call.AllReservations session) = true
is_other (call.AllQueues session) = true
is_other (call.AllMachines session) = true
is_other _ = false
