-- Each refusal of a request is an answer: neither want of memory nor a full journal is among its tests.
use Rattle.std.proofs.Common.{◌≡◌, Bool, true, false, cond, not, List, [], ◌∷◌, ◌++◌, length, Some, refl, subst}
use Rattle.std.specs.Prelude.{is_some, nat_le}
use Rattle.std.specs.List.{AllByRecursion}
use Rattle.drmaa_types.specs.Refusals.{first_refusal}
use Rattle.drmaa_types.specs.declared.refusals.Attribute.{Attribute}
use Rattle.drmaa_types.specs.declared.refusals.Limit.TheVariants as resource
use Rattle.drmaa_types.specs.declared.refusals.Refusal.{Refusal}
use Rattle.drmaa_types.specs.declared.refusals.Refusal.TheVariants.{DeniedByDrms, OutOfResource}
use Rattle.drmaa_types.specs.declared.sessions.SessionKind.TheVariants.{Reservations}
use Rattle.job_template.specs.declared.templates.ReservationTemplate.{ReservationTemplate}
use Rattle.job_template.specs.Frames.{frame_of, frame_tests, name_tests, start_tests, length_tests, slot_tests}
use Rattle.job_template.specs.Unsupported.{other_tests}
use Rattle.drmaa_model.specs.FitLaws.{all-append}
use Rattle.drmaa_model.specs.Homes.{session_test}
use Rattle.drmaa_model.specs.Operation.{is_answer}
use Rattle.drmaa_model.specs.Plan.{Plan}
use Rattle.drmaa_model.specs.Refusals.{refusal}
use Rattle.drmaa_model.specs.Requests.{denied_at, most_reservations, request_tests, start_in}
use Rattle.drmaa_model.specs.World.{World}
use Rattle.recurring_reservations.specs.declared.requests.Asker.{Asker}
use Rattle.recurring_reservations.specs.Requests.{asking}

abbrev Answering : List (Bool × Refusal) → Type 0
Answering ts = AllByRecursion (λ (t : Bool × Refusal). is_answer t.1 ≡ true) ts

both-answer : (ts us : List (Bool × Refusal)) → Answering ts → Answering us → Answering (ts ++ us)
both-answer ts us front back = all-append (λ (t : Bool × Refusal). is_answer t.1 ≡ true) ts us front back

first-answers : (ts : List (Bool × Refusal)) (why : Refusal) → Answering ts → first_refusal ts ≡ Some why → is_answer why ≡ true
first-answers [] why all is = absurd (cc)
first-answers (t ∷ ts) why all is =
    (elim t.0 as (λ b. cond b (Some t.1) (first_refusal ts) ≡ Some why → is_answer why ≡ true) [
      | true ↦ λ e. (let same : t.1 ≡ why = cc in subst (λ (r : Refusal). is_answer r ≡ true) same all.0)
      | false ↦ λ e. first-answers ts why all.1 e
    ]) is

other-answers : (others : List Attribute) → Answering (other_tests others)
other-answers [] = tt
other-answers (a ∷ others) = (refl, other-answers others)

request-answers : (t : ReservationTemplate) (p : Plan) → Answering (request_tests t p)
request-answers t p =
    let f = frame_of p.moment t in
    let own : Answering (name_tests t ++ start_tests p.moment t f ++ length_tests t f ++ slot_tests f.min f.max) = (refl, (refl, (refl, (refl, (refl, (refl, (refl, (refl, (refl, (refl, tt)))))))))) in
    let room : List (Bool × Refusal) =
    (nat_le most_reservations (length p.reservations), OutOfResource resource.Reservations) ∷ (not (is_some (start_in f p)), DeniedByDrms (denied_at t p)) ∷ [] in
    both-answer (frame_tests p.moment t) room
    (both-answer (name_tests t ++ start_tests p.moment t f ++ length_tests t f ++ slot_tests f.min f.max) (other_tests t.others) own (other-answers t.others)) (refl, (refl, tt))

pub refusal-answers : (a : Asker) (v : World) (t : ReservationTemplate) (why : Refusal) → refusal v (asking a t) ≡ Some why → is_answer why ≡ true
refusal-answers a v t why is = first-answers (session_test (Reservations ∷ []) a.session v ∷ request_tests t v.plan) why (refl, request-answers t v.plan) is
