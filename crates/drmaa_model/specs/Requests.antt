-- Reservations that are asked for and ended: GFD.231, ReservationSession; how a frame is filled is our profile.
use Rattle.std.specs.Prelude.{ℕ, ◌+◌, ◌-◌, Bool, not, ◌==◌, nat_le, List, [], ◌∷◌, ◌++◌, filter, length, Option, Some, None, is_some, if◌then◌else◌}
use Rattle.std.specs.Option.{option_map_or}
use Rattle.drmaa_types.specs.Refusals.{first_refusal}
use Rattle.job_template.specs.declared.templates.Frame.{Frame}
use Rattle.job_template.specs.declared.templates.ReservationTemplate.{ReservationTemplate}
use Rattle.job_template.specs.Frames.{frame_of, frame_tests, is_loose}
use Rattle.drmaa_types.specs.declared.identifiers.ReservationId.{ReservationId}
use Rattle.drmaa_types.specs.declared.infos.Reserved.{Reserved}
use Rattle.drmaa_types.specs.declared.moments.End.TheVariants.{At}
use Rattle.drmaa_types.specs.declared.refusals.Refusal.{Refusal}
use Rattle.drmaa_types.specs.declared.refusals.Refusal.TheVariants.{DeniedByDrms, InvalidArgument, OutOfResource}
use Rattle.drmaa_types.specs.declared.refusals.Which.TheVariants as which
use Rattle.drmaa_types.specs.declared.refusals.Limit.TheVariants as resource
use Rattle.drmaa_model.specs.declared.reservations.Accepted.{Accepted}
use Rattle.drmaa_model.specs.Load.{fits, first_overfull, earliest}
use Rattle.drmaa_model.specs.Operation.{Operation}
use Rattle.drmaa_model.specs.NextLaunch.{greatest_from}
use Rattle.drmaa_model.specs.Plan.{Plan}
use Rattle.drmaa_model.specs.Time.{is_accepted, expire, call_in}

-- ---- asking

abbrev pub most_reservations : ℕ
most_reservations = 10_000

-- The least start in the frame from which the least number of slots fits. An interval that is given exactly has one start.
abbrev pub start_in : Frame → Plan → Option ℕ
start_in f p = earliest p f.min f.from f.until f.span

-- the greatest number of slots that fits from there
abbrev pub slots_in : Frame → Plan → ℕ → ℕ
slots_in f p from = greatest_from f.min (f.max - f.min) (λ slots. fits p slots from (At (from + f.span)))

-- where an interval that is given exactly is overfull first
abbrev pub denied_at : ReservationTemplate → Plan → Option ℕ
denied_at t p = if is_loose t then None else first_overfull p (frame_of p.moment t).min (frame_of p.moment t).from (At (frame_of p.moment t).until)

abbrev pub request_tests : ReservationTemplate → Plan → List (Bool × Refusal)
request_tests t p =
    frame_tests p.moment t ++
    (nat_le most_reservations (length p.reservations), OutOfResource resource.Reservations) ∷
    (not (is_some (start_in (frame_of p.moment t) p)), DeniedByDrms (denied_at t p)) ∷ []

-- the reservation from this start
abbrev pub accepted_at : ℕ → ReservationTemplate → Plan → ℕ → Accepted
accepted_at home t p from = record {
  reservation = record { 0 = p.next_reservation };
  home = Some home;
  name = t.reservation_name;
  slots = slots_in (frame_of p.moment t) p from;
  from = from;
  until = from + (frame_of p.moment t).span;
}

abbrev pub chosen_start : ReservationTemplate → Plan → ℕ
chosen_start t p = option_map_or (λ (from : ℕ). from) (start_in (frame_of p.moment t) p) 0

abbrev pub reserved_as : Accepted → Reserved
reserved_as a = record { reservation = a.reservation; slots = a.slots; from = a.from; until = a.until }

abbrev pub with_reservation : Accepted → Plan → Plan
with_reservation a p = record p { reservations = p.reservations ++ a ∷ []; next_reservation = p.next_reservation + 1 }

abbrev pub request : ℕ → ReservationTemplate → Operation Reserved
request home t = record {
  refusal = λ p. first_refusal (request_tests t p);
  told = λ p. reserved_as (accepted_at home t p (chosen_start t p));
  effect = λ entry p. with_reservation (accepted_at home t p (chosen_start t p)) p;
}

-- ---- ending

abbrev pub is_other : ReservationId → Accepted → Bool
is_other number a = not (a.reservation.0 == number.0)

abbrev pub without_reservation : ReservationId → Plan → Plan
without_reservation number p = record p { reservations = filter (is_other number) p.reservations }

-- the reservation leaves the list, and in the same entry the jobs that name it end or are asked to
abbrev pub end_reservation : ReservationId → Operation (Unit {0})
end_reservation number = record {
  refusal = λ p. first_refusal ((not (is_accepted p.reservations number), InvalidArgument which.Reservation) ∷ []);
  told = λ p. tt;
  effect = λ entry p. call_in (expire entry (without_reservation number p));
}
