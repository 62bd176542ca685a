-- What a request is offered in a plan whose moment has come: our profile.
use Rattle.std.specs.Prelude.{ℕ, ◌+◌, Bool, not, is_some, nat_le, List, [], ◌∷◌, length, Some}
use Rattle.drmaa_types.specs.declared.refusals.Refusal.{Refusal}
use Rattle.drmaa_types.specs.declared.refusals.Refusal.TheVariants.{DeniedByDrms, OutOfResource}
use Rattle.drmaa_types.specs.declared.refusals.Limit.TheVariants as resource
use Rattle.job_template.specs.declared.templates.Frame.{Frame}
use Rattle.job_template.specs.declared.templates.ReservationTemplate.{ReservationTemplate}
use Rattle.job_template.specs.Frames.{frame_of}
use Rattle.drmaa_model.specs.declared.reservations.Accepted.{Accepted}
use Rattle.drmaa_model.specs.Plan.{Plan}
use Rattle.drmaa_model.specs.Requests.{most_reservations, start_in, slots_in, denied_at, chosen_start}
use Rattle.drmaa_model.specs.Time.{come_to, let_go}
use Rattle.scheduler_core.specs.declared.requests.Offer.{Offer}

-- the plan whose moment has come, before time changes any job
abbrev pub come : ℕ → Plan → Plan
come at p = let_go (come_to at p)

-- why a request is refused whose template is in form
abbrev pub room_tests : ReservationTemplate → Plan → List (Bool × Refusal)
room_tests t p =
    (nat_le most_reservations (length p.reservations), OutOfResource resource.Reservations) ∷
    (not (is_some (start_in (frame_of p.moment t) p)), DeniedByDrms (denied_at t p)) ∷ []

-- what is offered in a frame from a start
abbrev pub offer_at : Frame → Plan → ℕ → Offer
offer_at f p from = record { slots = slots_in f p from; from = from; until = from + f.span }

-- what a request is offered that is not refused
abbrev pub offered : ReservationTemplate → Plan → Offer
offered t p = offer_at (frame_of p.moment t) p (chosen_start t p)

-- the reservation of an offer
abbrev pub accepted_of : ℕ → ℕ → ReservationTemplate → Offer → Accepted
accepted_of number home t offer = record {
  reservation = record { 0 = number };
  home = Some home;
  name = t.reservation_name;
  slots = offer.slots;
  from = offer.from;
  until = offer.until;
}
