-- What a reason says of a job that wants so many slots: our profile. By each a condition of readiness fails.
use Rattle.std.specs.Prelude.{◌≡◌, ◌⊎◌, ℕ, ◌+◌, ◌-◌, ◌<◌, ◌≤◌, false, Some, None}
use Rattle.std.specs.Option.{option_map}
use Rattle.drmaa_types.specs.Queues.{queue_at}
use Rattle.drmaa_types.specs.declared.identifiers.ArrayId.{ArrayId}
use Rattle.drmaa_types.specs.declared.queues.QueueSpec.{QueueSpec}
use Rattle.drmaa_model.specs.declared.reservations.Accepted.{Accepted}
use Rattle.drmaa_model.specs.declared.rows.Row.{Row}
use Rattle.drmaa_model.specs.Courses.{planned_end}
use Rattle.drmaa_model.specs.Load.{in_reservation, in_queue, in_array, reservation_of, first_overfull}
use Rattle.drmaa_model.specs.NextLaunch.{held, is_queued}
use Rattle.drmaa_model.specs.Plan.{Plan}
use Rattle.wait_reasons.specs.declared.reasons.Reason.{Reason}
use Rattle.wait_reasons.specs.declared.reasons.Reason.TheVariants.{NotQueued, StartsAt, ArrayFull, FewFree, Overfull, QueueFull, ReservationGone, ReservationOutside, ReservationFull}
use Rattle.wait_reasons.specs.Reasons.{covering}

abbrev pub IsSo : Plan → ℕ → Row → Reason → Type 0
-- the job has this state, and is not queued
IsSo p slots row (NotQueued state) = (state ≡ row.course.state) × (is_queued row.course.state ≡ false)
-- it starts at this moment, and now is before it
IsSo p slots row (StartsAt start) = (row.wants.start ≡ Some start) × (p.moment < start)
-- this is its bound, and so many members of its array, no fewer than that, hold slots
IsSo p slots row (ArrayFull holding bound) = (row.wants.bound ≡ Some bound)
    × (option_map (λ (array : ArrayId). in_array array p.rows) row.wants.array ≡ Some holding) × (bound ≤ holding)
-- so many slots are free, and with those that it wants more are held than there are
IsSo p slots row (FewFree wants free) = (wants ≡ slots) × (free ≡ p.total - held p.rows) × (p.total < held p.rows + slots)
-- it names no reservation, and this is the first moment of its run at which the calendar has no room for it
IsSo p slots row (Overfull wants moment number) = (row.wants.reservation ≡ None) × (wants ≡ slots)
    × (first_overfull p slots p.moment (planned_end row.wants p.moment) ≡ Some moment) × (number ≡ covering moment p.reservations)
-- it names no reservation, and with the slots that it wants its queue passes its limit
IsSo p slots row (QueueFull place used limit) = (row.wants.reservation ≡ None) × (row.wants.queue ≡ Some place)
    × (option_map (λ (queue : QueueSpec). queue.limit) (queue_at place p.queues) ≡ Some limit) × (used ≡ in_queue place p.rows) × (limit < used + slots)
-- it names this reservation, which is not there
IsSo p slots row (ReservationGone number) = (row.wants.reservation ≡ Some number) × (reservation_of number p.reservations ≡ None)
-- it names this reservation, and now is before its start or not before its end
IsSo p slots row (ReservationOutside number from until) = (row.wants.reservation ≡ Some number)
    × (option_map (λ (a : Accepted). a.from) (reservation_of number p.reservations) ≡ Some from)
    × (option_map (λ (a : Accepted). a.until) (reservation_of number p.reservations) ≡ Some until) × ((p.moment < from) ⊎ (until ≤ p.moment))
-- it names this reservation, and with the slots that it wants more are in use than that has
IsSo p slots row (ReservationFull number used size) = (row.wants.reservation ≡ Some number)
    × (option_map (λ (a : Accepted). a.slots) (reservation_of number p.reservations) ≡ Some size) × (used ≡ in_reservation number p.rows) × (size < used + slots)
