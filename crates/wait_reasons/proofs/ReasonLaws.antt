-- There is no reason exactly where a job is ready.
use Rattle.std.proofs.Common.{◌≡◌, ℕ, ◌+◌, nat_le, nat_lt, Bool, true, false, not, ◌&&◌, is_some, List, [], ◌∷◌, ◌++◌, Option, Some, None, refl}
use Rattle.std.specs.Option.{option_map_or}
use Rattle.drmaa_types.specs.Queues.{queue_at}
use Rattle.drmaa_types.specs.declared.identifiers.ArrayId.{ArrayId}
use Rattle.drmaa_types.specs.declared.identifiers.ReservationId.{ReservationId}
use Rattle.drmaa_types.specs.declared.queues.QueueSpec.{QueueSpec}
use Rattle.drmaa_model.specs.declared.reservations.Accepted.{Accepted}
use Rattle.drmaa_model.specs.declared.rows.Row.{Row}
use Rattle.drmaa_model.specs.Courses.{planned_end}
use Rattle.drmaa_model.specs.Load.{covers, in_reservation, in_queue, in_array, reservation_of, first_overfull, fits}
use Rattle.drmaa_model.specs.NextLaunch.{held, is_queued, is_reached, is_within_bound, has_slots_in, has_room_in, has_slots_free, has_slots, may_come, is_ready, IsReady}
use Rattle.drmaa_model.specs.Plan.{Plan}
use Rattle.wait_reasons.specs.declared.reasons.Reason.{Reason}
use Rattle.wait_reasons.specs.declared.reasons.Reason.TheVariants.{ArrayFull, QueueFull, ReservationGone}
use Rattle.wait_reasons.specs.Reasons.{unless, start_reason, calendar_reason, queue_reason, ordinary_reasons, inside_reasons, reservation_reasons, coming_reasons, reasons}

-- there are no reasons exactly where a condition holds
pub record Says (rs : List Reason) (holds : Bool) : Type 0 where
  pub met : rs ≡ [] → holds ≡ true
  pub none : holds ≡ true → rs ≡ []

always : Says [] true
always = record { met = λ e. refl; none = λ e. refl }

never : (r : Reason) → Says (r ∷ []) false
never r = record { met = λ e. absurd (cc); none = λ e. absurd (cc) }

one : (holds : Bool) (r : Reason) → Says (unless holds r) holds
one true r = always
one false r = never r

both : (rs others : List Reason) (a b : Bool) → Says rs a → Says others b → Says (rs ++ others) (a && b)
both [] others true b s t = t
both [] others false b s t = absurd (let e = s.met refl in cc)
both (r ∷ rs) others true b s t = absurd (let e = s.none refl in cc)
both (r ∷ rs) others false b s t = record { met = λ e. absurd (cc); none = λ e. absurd (cc) }

started : (moment : ℕ) (start : Option ℕ) → Says (start_reason moment start) (is_reached moment start)
started moment None = always
started moment (Some start) = one (nat_le start moment) _

bounded_in : (rows : List Row) (bound : ℕ) (array : Option ArrayId)
    → Says (option_map_or (λ (a : ArrayId). unless (nat_lt (in_array a rows) bound) (ArrayFull (in_array a rows) bound)) array [])
    (option_map_or (λ (a : ArrayId). nat_lt (in_array a rows) bound) array true)
bounded_in rows bound None = always
bounded_in rows bound (Some array) = one (nat_lt (in_array array rows) bound) _

bounded : (rows : List Row) (bound : Option ℕ) (array : Option ArrayId)
    → Says (option_map_or (λ (n : ℕ). option_map_or (λ (a : ArrayId). unless (nat_lt (in_array a rows) n) (ArrayFull (in_array a rows) n)) array []) bound [])
    (option_map_or (λ (n : ℕ). option_map_or (λ (a : ArrayId). nat_lt (in_array a rows) n) array true) bound true)
bounded rows None array = always
bounded rows (Some bound) array = bounded_in rows bound array

fitting : (rs : List Accepted) (slots : ℕ) (found : Option ℕ) → Says (calendar_reason rs slots found) (not (is_some found))
fitting rs slots None = always
fitting rs slots (Some moment) = never _

roomy_in : (p : Plan) (slots place : ℕ) (queue : Option QueueSpec)
    → Says (option_map_or (λ (q : QueueSpec). unless (nat_le (in_queue place p.rows + slots) q.limit) (QueueFull place (in_queue place p.rows) q.limit)) queue [])
    (option_map_or (λ (q : QueueSpec). nat_le (in_queue place p.rows + slots) q.limit) queue true)
roomy_in p slots place None = always
roomy_in p slots place (Some queue) = one (nat_le (in_queue place p.rows + slots) queue.limit) _

roomy : (p : Plan) (slots : ℕ) (place : Option ℕ) → Says (option_map_or (queue_reason p slots) place []) (option_map_or (has_room_in p slots) place true)
roomy p slots None = always
roomy p slots (Some place) = roomy_in p slots place (queue_at place p.queues)

inside : (p : Plan) (slots : ℕ) (number : ReservationId) (found : Option Accepted)
    → Says (option_map_or (inside_reasons p slots number) found (ReservationGone number ∷ []))
    (option_map_or (λ (a : Accepted). covers p.moment a && nat_le (in_reservation number p.rows + slots) a.slots) found false)
inside p slots number None = never (ReservationGone number)
inside p slots number (Some a) =
    both _ _ (covers p.moment a) (nat_le (in_reservation number p.rows + slots) a.slots) (one (covers p.moment a) _) (one (nat_le (in_reservation number p.rows + slots) a.slots) _)

ordinary : (p : Plan) (slots : ℕ) (row : Row) → Says (ordinary_reasons p slots row.wants) (has_slots_free p slots row)
ordinary p slots row =
    both _ _ (fits p slots p.moment (planned_end row.wants p.moment)) (option_map_or (has_room_in p slots) row.wants.queue true)
    (fitting p.reservations slots (first_overfull p slots p.moment (planned_end row.wants p.moment))) (roomy p slots row.wants.queue)

slotted : (p : Plan) (slots : ℕ) (row : Row) (reservation : Option ReservationId)
    → Says (option_map_or (reservation_reasons p slots) reservation (ordinary_reasons p slots row.wants)) (option_map_or (has_slots_in p slots) reservation (has_slots_free p slots row))
slotted p slots row None = ordinary p slots row
slotted p slots row (Some number) = inside p slots number (reservation_of number p.reservations)

coming : (p : Plan) (row : Row) → Says (coming_reasons p row) (may_come p row)
coming p row =
    both _ _ (is_queued row.course.state && is_reached p.moment row.wants.start) (is_within_bound p.rows row.wants)
    (both _ _ (is_queued row.course.state) (is_reached p.moment row.wants.start) (one (is_queued row.course.state) _) (started p.moment row.wants.start))
    (bounded p.rows row.wants.bound row.wants.array)

pub ready_says : (p : Plan) (slots : ℕ) (row : Row) → Says (reasons p slots row) (is_ready p slots row)
ready_says p slots row =
    both _ _ (may_come p row) (nat_le (held p.rows + slots) p.total && has_slots p slots row) (coming p row)
    (both _ _ (nat_le (held p.rows + slots) p.total) (has_slots p slots row) (one (nat_le (held p.rows + slots) p.total) _) (slotted p slots row row.wants.reservation))

pub ready_where_none : (p : Plan) (slots : ℕ) (row : Row) → (reasons p slots row ≡ [] → IsReady p slots row) × (IsReady p slots row → reasons p slots row ≡ [])
ready_where_none p slots row = ((ready_says p slots row).met, (ready_says p slots row).none)
