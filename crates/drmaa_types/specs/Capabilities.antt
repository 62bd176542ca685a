-- Which optional parts of the standard this profile has: GFD.231, capabilities; the choice is our profile.
use Rattle.std.specs.Prelude.{Bool, true, false}
use Rattle.drmaa_types.specs.declared.capabilities.Capability.{Capability}
use Rattle.drmaa_types.specs.declared.capabilities.Capability.TheVariants.{AdvanceReservation, ReserveSlots, Callback, BulkJobsMaxParallel, JobDeadline, JobMaxSlots, ReservationStartNow, ReservationDuration, JobEmail, JobStaging, JobAccountingId, ReservationMachineOs, ReservationMachineArch}

abbrev pub supports : Capability → Bool
supports AdvanceReservation = true
supports ReserveSlots = true
supports Callback = true
supports BulkJobsMaxParallel = true
supports JobDeadline = true
supports JobMaxSlots = true
supports ReservationStartNow = true
supports ReservationDuration = true
supports JobEmail = false
supports JobStaging = false
supports JobAccountingId = false
supports ReservationMachineOs = false
supports ReservationMachineArch = false
