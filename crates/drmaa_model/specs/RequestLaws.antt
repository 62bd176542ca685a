-- A reservation that is asked for or ended keeps a plan fit.
use Rattle.std.proofs.Common.{◌≡◌, ℕ, suc, ◌+◌, ◌-◌, ◌<◌, ◌≤◌, Bool, true, false, cond, leb, ltb, eqb, not, List, [], ◌∷◌, length, Option, Some, None, refl, ◌∙◌, ap, arith}
use Rattle.std.specs.Prelude.{IfSome, is_some}
use Rattle.std.specs.List.{AllByRecursion}
use Rattle.std.specs.Option.{option_map_or}
use Rattle.std.proofs.lemmas.Bool.{and_parts, eqb-true, ltb-true, leb-true}
use Rattle.std.proofs.lemmas.List.Sums.{sum_by_push, sum_by-cons}
use Rattle.job_template.specs.declared.templates.Frame.{Frame}
use Rattle.job_template.specs.declared.templates.ReservationTemplate.{ReservationTemplate}
use Rattle.job_template.specs.Frames.{frame_of, frame_tests}
use Rattle.drmaa_types.specs.declared.identifiers.ReservationId.{ReservationId}
use Rattle.drmaa_types.specs.declared.moments.End.TheVariants.{At}
use Rattle.drmaa_types.specs.declared.refusals.Refusal.{Refusal}
use Rattle.drmaa_types.specs.declared.refusals.Refusal.TheVariants.{DeniedByDrms, OutOfResource}
use Rattle.drmaa_types.specs.declared.refusals.Limit.TheVariants as resource
use Rattle.drmaa_model.specs.declared.reservations.Accepted.{Accepted}
use Rattle.drmaa_model.specs.declared.rows.Row.{Row}
use Rattle.drmaa_model.specs.Fit.{reservation_number, IsFit}
use Rattle.drmaa_model.specs.FitLaws.{fewer-fit, expire-fit, call_in-fit}
use Rattle.drmaa_model.specs.Load.{covers, slots_at, booked, load, in_reservation, held_inside, fits}
use Rattle.drmaa_model.specs.MomentLaws.{first-some, fits-at}
use Rattle.drmaa_model.specs.NextLaunchLaws.{greatest_from-meets}
use Rattle.drmaa_model.specs.OperationLaws.{KeepsFit, refusal-append, no_test}
use Rattle.drmaa_model.specs.Plan.{Plan}
use Rattle.drmaa_model.specs.Requests.{most_reservations, denied_at, start_in, slots_in, accepted_at, chosen_start, with_reservation, request, is_other, without_reservation, end_reservation}
use Rattle.drmaa_model.specs.RowLaws.{all-push, all-implied, numbered-push}
use Rattle.drmaa_model.specs.Time.{expire}

-- what is true of a start that was found
pub record IsStart (f : Frame) (p : Plan) (from : ℕ) : Type 0 where
  pub since : f.from ≤ from
  pub inside : from + f.span ≤ f.until
  pub fit : fits p f.min from (At (from + f.span)) ≡ true
  pub least : (x : ℕ) → f.from ≤ x → x < from → fits p f.min x (At (x + f.span)) ≡ false

pub start-is : (f : Frame) (p : Plan) (from : ℕ) → start_in f p ≡ Some from → IsStart f p from
start-is f p from found =
    let first = first-some (λ x. fits p f.min x (At (x + f.span))) f.from (suc f.until - f.span - f.from) from found in
    record { since = first.low; inside = (let high = first.high in omega arith); fit = first.meets; least = first.least }

-- the slots that are given fit
pub slots-fit : (f : Frame) (p : Plan) (from : ℕ) → IsStart f p from → fits p (slots_in f p from) from (At (from + f.span)) ≡ true
slots-fit f p from is = greatest_from-meets f.min (f.max - f.min) (λ slots. fits p slots from (At (from + f.span))) is.fit

-- no job names a reservation that is yet to come
none-names : (n : ℕ) (rows : List Row) → AllByRecursion (λ (row : Row). IfSome row.wants.reservation (λ (r : ReservationId). r.0 < n)) rows → in_reservation (record { 0 = n }) rows ≡ 0
none-names n [] all = refl
none-names n (row ∷ rows) all =
    let here : held_inside (record { 0 = n }) row ≡ 0 =
    (elim row.wants.reservation as (λ o. IfSome o (λ (r : ReservationId). r.0 < n) → cond (option_map_or (λ (r : ReservationId). eqb r.0 n) o false) row.course.held 0 ≡ 0) [
      | None ↦ λ h. refl
      | Some r ↦ λ h.
          (elim (eqb r.0 n) as (λ b. eqb r.0 n ≡ b → cond b row.course.held 0 ≡ 0) [
            | true ↦ λ e. (let same = eqb-true r.0 n e in absurd (omega arith))
            | false ↦ λ e. refl
          ]) refl
    ]) all.0 in
    omega (arith, here, none-names n rows all.1, sum_by-cons (held_inside (record { 0 = n })) row rows)

more-below : (n : ℕ) (o : Option ReservationId) → IfSome o (λ (r : ReservationId). r.0 < n) → IfSome o (λ (r : ReservationId). r.0 < n + 1)
more-below n None h = tt
more-below n (Some r) h = omega arith

covered : (load slots total : ℕ) (a : Accepted) (x : ℕ) → load ≤ total → (a.from ≤ x → x < a.until → load + a.slots ≤ total) → load + slots_at x a ≤ total
covered load slots total a x low fits =
    (elim (covers x a) as (λ b. covers x a ≡ b → load + cond b a.slots 0 ≤ total) [
      | true ↦ λ e. (let both = and_parts (leb a.from x) (ltb x a.until) e in fits (leb-true a.from x both.0) (ltb-true x a.until both.1))
      | false ↦ λ e. omega arith
    ]) refl

-- a reservation that fits the calendar keeps a plan fit
pub accepted-fit : (p : Plan) (a : Accepted) → IsFit p → a.reservation ≡ record { 0 = p.next_reservation } → fits p a.slots a.from (At a.until) ≡ true → IsFit (with_reservation a p)
accepted-fit p a fit number fits = record {
  within = fit.within;
  sound = fit.sound;
  jobs = fit.jobs;
  reserved = all-implied (λ (row : Row). IfSome row.wants.reservation (λ (r : ReservationId). r.0 < p.next_reservation)) (λ (row : Row). IfSome row.wants.reservation (λ (r : ReservationId). r.0 < p.next_reservation + 1))
      (λ row h. more-below p.next_reservation row.wants.reservation h) p.rows fit.reserved;
  arrays = fit.arrays;
  attempts = fit.attempts;
  asked = fit.asked;
  loads = λ x low high.
      (let push = sum_by_push (slots_at x) p.reservations a in
      let all = covered (load p x) a.slots p.total a x (fit.loads x low high) (λ since before. fits-at p a.slots a.from (At a.until) fits x since (omega arith)) in
      omega arith);
  books = λ x high.
      (let push = sum_by_push (slots_at x) p.reservations a in
      let all = covered (booked p.reservations x) a.slots p.total a x (fit.books x high) (λ since before. (let l = fits-at p a.slots a.from (At a.until) fits x since (omega arith) in omega arith)) in
      omega arith);
  inside = all-push (λ (b : Accepted). in_reservation b.reservation p.rows ≤ b.slots) p.reservations a fit.inside
      (let none : in_reservation a.reservation p.rows ≡ 0 = ap (λ (n : ReservationId). in_reservation n p.rows) number ∙ none-names p.next_reservation p.rows fit.reserved in omega arith);
  queued = fit.queued;
  bounds = fit.bounds;
  alike = fit.alike;
  accepted = numbered-push reservation_number p.next_reservation p.reservations a fit.accepted (ap (λ (n : ReservationId). n.0) number);
  dispatched = fit.dispatched;
}

-- what is not refused has a start
pub request-start : (home : ℕ) (t : ReservationTemplate) (p : Plan) → (request home t).refusal p ≡ None → start_in (frame_of p.moment t) p ≡ Some (chosen_start t p)
request-start home t p free =
    let second_test : Bool × Refusal = (not (is_some (start_in (frame_of p.moment t) p)), DeniedByDrms (denied_at t p)) in
    let first_test : Bool × Refusal = (leb most_reservations (length p.reservations), OutOfResource resource.Reservations) in
    let room = (refusal-append (frame_tests p.moment t) (first_test ∷ second_test ∷ []) free).1 in
    let first = no_test first_test (second_test ∷ []) room in
    let second = no_test second_test [] first.1 in
    (elim (start_in (frame_of p.moment t) p) as (λ o. not (is_some o) ≡ false → o ≡ Some (option_map_or (λ (from : ℕ). from) o 0)) [
      | None ↦ λ e. absurd (cc)
      | Some from ↦ λ e. refl
    ]) second.0

pub request-keeps : (home : ℕ) (t : ReservationTemplate) → KeepsFit (request home t)
request-keeps home t = record {
  keeps = λ entry p fit free.
      (let f = frame_of p.moment t in
      let from = chosen_start t p in
      accepted-fit p (accepted_at home t p from) fit refl (slots-fit f p from (start-is f p from (request-start home t p free))));
}

pub without-fit : (number : ReservationId) (p : Plan) → IsFit p → IsFit (without_reservation number p)
without-fit number p fit = fewer-fit p.moment (is_other number) p (omega arith) fit

pub end-fit : (number : ReservationId) (entry : ℕ) (p : Plan) → IsFit p → IsFit ((end_reservation number).effect entry p)
end-fit number entry p fit =
    let q = without_reservation number p in
    call_in-fit (expire entry q) (expire-fit entry q (without-fit number p fit))

pub end-keeps : (number : ReservationId) → KeepsFit (end_reservation number)
end-keeps number = record { keeps = λ entry p fit free. end-fit number entry p fit }
