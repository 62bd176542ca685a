-- Which job is launched next: our profile.
use Rattle.drmaa_model.specs.Courses.{planned_end}
use Rattle.drmaa_model.specs.Load.{covers, in_reservation, in_queue, in_array, reservation_of, fits}
use Rattle.drmaa_model.specs.declared.reservations.Accepted.{Accepted}
use Rattle.drmaa_types.specs.Queues.{queue_at}
use Rattle.drmaa_types.specs.declared.queues.QueueSpec.{QueueSpec}
use Rattle.drmaa_types.specs.declared.identifiers.ReservationId.{ReservationId}
use Rattle.drmaa_types.specs.declared.identifiers.ArrayId.{ArrayId}
use Rattle.std.specs.Prelude.{ℕ, zero, suc, ◌+◌, ◌-◌, Bool, true, not, ◌||◌, ◌&&◌, ◌==◌, is_none, nat_le, int_lt, IsTrue, List, [], ◌∷◌, Option, Some, None, filter, length, sum_by, if◌then◌else◌, nat_lt, false}
use Rattle.std.specs.Option.{option_map, option_map_or}
use Rattle.drmaa_types.specs.States.{is_state}
use Rattle.drmaa_types.specs.declared.states.JobState.{JobState}
use Rattle.drmaa_types.specs.declared.states.JobState.TheVariants.{Queued, Requeued}
use Rattle.drmaa_model.specs.declared.rows.Row.{Row}
use Rattle.drmaa_model.specs.declared.rows.Wants.{Wants}
use Rattle.drmaa_model.specs.Plan.{Plan}

-- the slots that all jobs hold
abbrev pub held : List Row → ℕ
held rows = sum_by (λ (row : Row). row.course.held) rows

-- a job that may be launched, as far as its state goes
abbrev pub is_queued : JobState → Bool
is_queued state = is_state state Queued || is_state state Requeued

-- the moment, where one is set, is reached
abbrev pub is_reached : ℕ → Option ℕ → Bool
is_reached moment None = true
is_reached moment (Some start) = nat_le start moment

-- the job has no bound, or fewer members of its array than that hold slots
abbrev pub is_within_bound : List Row → Wants → Bool
is_within_bound rows wants = option_map_or (λ (bound : ℕ). option_map_or (λ (array : ArrayId). nat_lt (in_array array rows) bound) wants.array true) wants.bound true

-- so many slots of a reservation, which covers the moment
abbrev pub has_slots_in : Plan → ℕ → ReservationId → Bool
has_slots_in p slots number =
    option_map_or (λ (a : Accepted). covers p.moment a && nat_le (in_reservation number p.rows + slots) a.slots) (reservation_of number p.reservations) false

-- so many slots within the limit of a queue
abbrev pub has_room_in : Plan → ℕ → ℕ → Bool
has_room_in p slots place = option_map_or (λ (queue : QueueSpec). nat_le (in_queue place p.rows + slots) queue.limit) (queue_at place p.queues) true

-- so many slots for an ordinary job: of the calendar from now to the planned end, and within the limit of its queue, where it has one
abbrev pub has_slots_free : Plan → ℕ → Row → Bool
has_slots_free p slots row = fits p slots p.moment (planned_end row.wants p.moment) && option_map_or (has_room_in p slots) row.wants.queue true

-- so many slots: of the reservation that the job names, or else those that are free for it
abbrev pub has_slots : Plan → ℕ → Row → Bool
has_slots p slots row = option_map_or (has_slots_in p slots) row.wants.reservation (has_slots_free p slots row)

-- as far as state, start and array go, the job may be launched now
abbrev pub may_come : Plan → Row → Bool
may_come p row = is_queued row.course.state && is_reached p.moment row.wants.start && is_within_bound p.rows row.wants

-- Whether a job may be launched now with so many slots.
abbrev pub is_ready : Plan → ℕ → Row → Bool
is_ready p slots row = may_come p row && (nat_le (held p.rows + slots) p.total && has_slots p slots row)

abbrev pub IsReady : Plan → ℕ → Row → Type 0
IsReady p slots row = IsTrue (is_ready p slots row)

-- of two jobs the one of greater priority, and of two alike the first
abbrev pub better : Row → Row → Row
better first second = if int_lt first.wants.priority second.wants.priority then second else first

-- the job that is better than all others
abbrev pub best_of : List Row → Option Row
best_of [] = None
best_of (row ∷ rows) = Some (option_map_or (better row) (best_of rows) row)

-- the greatest of the numbers from the least one to that many more that meets the test; the least one where none does
abbrev pub greatest_from : ℕ → ℕ → (ℕ → Bool) → ℕ
greatest_from least zero test = least
greatest_from least (suc more) test = if test (least + suc more) then least + suc more else greatest_from least more test

-- the greatest number of slots, from minSlots to maxSlots, for which a job is ready
abbrev pub slots_for : Plan → Row → ℕ
slots_for p row = greatest_from row.wants.min (row.wants.max - row.wants.min) (λ slots. is_ready p slots row)

-- The first job, by priority descending and number ascending, that is ready for its minSlots, and the slots that it gets.
abbrev pub next_launch : Plan → Option (Row × ℕ)
next_launch p =
    option_map (λ (row : Row). (row, slots_for p row)) (best_of (filter (λ (row : Row). is_ready p row.wants.min row) p.rows))

-- one job stands before another, or is that job: its priority is greater, or it is the same and its number is not greater
abbrev pub stands_before : Row → Row → Bool
stands_before first other =
    if int_lt other.wants.priority first.wants.priority then true
    else (not (int_lt first.wants.priority other.wants.priority) && nat_le first.job.0 other.job.0)

-- no job holds slots, no order stands, and none is ready
abbrev pub settled : Plan → Bool
settled p = (held p.rows == 0) && (length p.orders == 0) && is_none (next_launch p)
