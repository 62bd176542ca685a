-- Why a job is not launched: our profile. A reason stands exactly where its condition of readiness (`is_ready`) fails, in the order
-- of that definition.
use Rattle.std.specs.Prelude.{ℕ, ◌+◌, ◌-◌, nat_le, nat_lt, Bool, true, false, List, [], ◌∷◌, ◌++◌, find, Option, Some, None}
use Rattle.std.specs.Option.{option_map, option_map_or}
use Rattle.drmaa_types.specs.Queues.{queue_at}
use Rattle.drmaa_types.specs.declared.identifiers.ArrayId.{ArrayId}
use Rattle.drmaa_types.specs.declared.identifiers.ReservationId.{ReservationId}
use Rattle.drmaa_types.specs.declared.queues.QueueSpec.{QueueSpec}
use Rattle.drmaa_types.specs.declared.states.JobState.{JobState}
use Rattle.drmaa_model.specs.declared.reservations.Accepted.{Accepted}
use Rattle.drmaa_model.specs.declared.rows.Row.{Row}
use Rattle.drmaa_model.specs.declared.rows.Wants.{Wants}
use Rattle.drmaa_model.specs.Courses.{planned_end}
use Rattle.drmaa_model.specs.Load.{covers, in_reservation, in_queue, in_array, reservation_of, first_overfull}
use Rattle.drmaa_model.specs.NextLaunch.{held, is_queued}
use Rattle.drmaa_model.specs.Plan.{Plan}
use Rattle.wait_reasons.specs.declared.reasons.Reason.{Reason}
use Rattle.wait_reasons.specs.declared.reasons.Reason.TheVariants.{NotQueued, StartsAt, ArrayFull, FewFree, Overfull, QueueFull, ReservationGone, ReservationOutside, ReservationFull}

-- a reason, where its condition fails
abbrev pub unless : Bool → Reason → List Reason
unless true reason = []
unless false reason = reason ∷ []

-- its state is not one from which a job is launched
abbrev pub state_reason : JobState → List Reason
state_reason state = unless (is_queued state) (NotQueued state)

-- the moment from which it may be launched is not reached
abbrev pub start_reason : ℕ → Option ℕ → List Reason
start_reason moment None = []
start_reason moment (Some start) = unless (nat_le start moment) (StartsAt start)

-- as many members of its array hold slots as may
abbrev pub array_reason : List Row → Wants → List Reason
array_reason rows wants = option_map_or (λ (bound : ℕ). option_map_or (λ (array : ArrayId).
    unless (nat_lt (in_array array rows) bound) (ArrayFull (in_array array rows) bound)) wants.array []) wants.bound []

-- fewer slots are free than so many
abbrev pub free_reason : Plan → ℕ → List Reason
free_reason p slots = unless (nat_le (held p.rows + slots) p.total) (FewFree slots (p.total - held p.rows))

-- the first reservation that covers a moment
abbrev pub covering : ℕ → List Accepted → Option ReservationId
covering x rs = option_map (λ (a : Accepted). a.reservation) (find (covers x) rs)

-- the calendar has no room for it at a moment of its run
abbrev pub calendar_reason : List Accepted → ℕ → Option ℕ → List Reason
calendar_reason rs slots None = []
calendar_reason rs slots (Some moment) = Overfull slots moment (covering moment rs) ∷ []

-- its queue has no room for it
abbrev pub queue_reason : Plan → ℕ → ℕ → List Reason
queue_reason p slots place = option_map_or (λ (queue : QueueSpec).
    unless (nat_le (in_queue place p.rows + slots) queue.limit) (QueueFull place (in_queue place p.rows) queue.limit)) (queue_at place p.queues) []

-- an ordinary job
abbrev pub ordinary_reasons : Plan → ℕ → Wants → List Reason
ordinary_reasons p slots wants =
    calendar_reason p.reservations slots (first_overfull p slots p.moment (planned_end wants p.moment)) ++ option_map_or (queue_reason p slots) wants.queue []

-- a job of a reservation
abbrev pub inside_reasons : Plan → ℕ → ReservationId → Accepted → List Reason
inside_reasons p slots number a =
    unless (covers p.moment a) (ReservationOutside number a.from a.until)
    ++ unless (nat_le (in_reservation number p.rows + slots) a.slots) (ReservationFull number (in_reservation number p.rows) a.slots)

abbrev pub reservation_reasons : Plan → ℕ → ReservationId → List Reason
reservation_reasons p slots number = option_map_or (inside_reasons p slots number) (reservation_of number p.reservations) (ReservationGone number ∷ [])

-- as far as its state, its start and its array go
abbrev pub coming_reasons : Plan → Row → List Reason
coming_reasons p row = (state_reason row.course.state ++ start_reason p.moment row.wants.start) ++ array_reason p.rows row.wants

-- as far as the calendar, a queue or a reservation goes
abbrev pub place_reasons : Plan → ℕ → Wants → List Reason
place_reasons p slots wants = option_map_or (reservation_reasons p slots) wants.reservation (ordinary_reasons p slots wants)

-- Why a job is not launched now with so many slots.
abbrev pub reasons : Plan → ℕ → Row → List Reason
reasons p slots row = coming_reasons p row ++ (free_reason p slots ++ place_reasons p slots row.wants)
