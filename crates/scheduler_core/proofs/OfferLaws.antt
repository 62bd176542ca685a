-- What a request is offered, and what the reservation of that offer comes to.
use Rattle.std.proofs.Common.{◌≡◌, ℕ, ◌+◌, ◌-◌, ◌<◌, ◌≤◌, Bool, false, cond, leb, not, length, max, Option, Some, None, refl, sym, ◌∙◌, ap, subst, arith}
use Rattle.std.specs.Prelude.{Result, Ok, Err, is_some}
use Rattle.std.specs.Option.{option_map_or}
use Rattle.std.proofs.lemmas.Bool.{lt-ltb}
use Rattle.drmaa_types.specs.Refusals.{first_refusal, refused_or}
use Rattle.drmaa_types.specs.RefusalLaws.{refused_first, passed_first}
use Rattle.drmaa_types.specs.declared.infos.Reserved.{Reserved}
use Rattle.drmaa_types.specs.declared.moments.End.TheVariants.{At}
use Rattle.drmaa_types.specs.declared.refusals.Refusal.{Refusal}
use Rattle.drmaa_types.specs.declared.refusals.Refusal.TheVariants.{DeniedByDrms, OutOfResource}
use Rattle.drmaa_types.specs.declared.refusals.Limit.TheVariants as resource
use Rattle.job_template.specs.declared.templates.Frame.{Frame}
use Rattle.job_template.specs.declared.templates.ReservationTemplate.{ReservationTemplate}
use Rattle.job_template.specs.Frames.{frame_of, frame_tests, is_loose}
use Rattle.drmaa_model.specs.declared.reservations.Accepted.{Accepted}
use Rattle.drmaa_model.specs.Fit.{IsFit}
use Rattle.drmaa_model.specs.FitLaws.{advance-fit, load-let_go}
use Rattle.drmaa_model.specs.Load.{first_overfull, fits}
use Rattle.drmaa_model.specs.MomentLaws.{LoadsAlike, earliest-same, fits-same, first_overfull-same, greatest_from-same}
use Rattle.drmaa_model.specs.Operation.{Outcome, outcome}
use Rattle.drmaa_model.specs.OperationLaws.{outcome-served, refusal-append}
use Rattle.drmaa_model.specs.Plan.{Plan}
use Rattle.drmaa_model.specs.ReadyLaws.{seen-advance}
use Rattle.drmaa_model.specs.RequestLaws.{IsStart, start-is, slots-fit, request-start, request-keeps}
use Rattle.drmaa_model.specs.Requests.{most_reservations, start_in, slots_in, denied_at, chosen_start, reserved_as, with_reservation, request, request_tests}
use Rattle.drmaa_model.specs.Time.{advance_plan}
use Rattle.reservation_calendar.specs.Schedules.{Schedule}
use Rattle.plan_book.specs.TieLaws.{tied-next}
use Rattle.plan_book.specs.Ties.{IsTied, IsFree, booked_for}
use Rattle.scheduler_core.specs.declared.requests.Offer.{Offer}
use Rattle.scheduler_core.specs.Requesting.{come, room_tests, offer_at, offered, accepted_of}
use Rattle.scheduler_core.proofs.CalendarLaws.{to-calendar}
use Rattle.drmaa_model.specs.FrameLaws.{IsFrame, frame-is}
use Rattle.scheduler_core.proofs.TableLaws.{ok-free, err-refused}

-- ---- plans of one load from a moment on offer the same

module _ (p q : Plan) (m : ℕ) (alike : LoadsAlike p q m) where
  start-same : (f : Frame) → m ≤ f.from → start_in f p ≡ start_in f q
  start-same f since = earliest-same p q f.min f.from f.until f.span m alike since

  slots-same : (f : Frame) (from : ℕ) → m ≤ from → slots_in f p from ≡ slots_in f q from
  slots-same f from since =
      greatest_from-same f.min (f.max - f.min) (λ slots. fits p slots from (At (from + f.span))) (λ slots. fits q slots from (At (from + f.span)))
      (λ slots. fits-same p q slots from (At (from + f.span)) m alike since)

  denied-same : (loose : Bool) (f : Frame) → m ≤ f.from → cond loose None (first_overfull p f.min f.from (At f.until)) ≡ cond loose None (first_overfull q f.min f.from (At f.until))
  denied-same loose f since = ap (λ (o : Option ℕ). cond loose None o) (first_overfull-same p q f.min f.from (At f.until) m alike since)

-- ---- what is offered before time goes on

-- the tests beside those of the template, by what they ask
table : Bool → Option ℕ → Option ℕ → Option Refusal
table busy start denied = cond busy (Some (OutOfResource resource.Reservations)) (cond (not (is_some start)) (Some (DeniedByDrms denied)) None)

module _ (at : ℕ) (p : Plan) (t : ReservationTemplate) (f : Frame) (own : f ≡ frame_of (max p.moment at) t) (since : max p.moment at ≤ f.from)
    (few : leb most_reservations (length (come at p).reservations) ≡ false) where
  come-alike : LoadsAlike (come at p) p (max p.moment at)
  come-alike = record { total = refl; loads = λ x later. load-let_go at p x later }

  start-read : start_in (frame_of (max p.moment at) t) (come at p) ≡ start_in f p
  start-read = sym (ap (λ (g : Frame). start_in g (come at p)) own) ∙ start-same (come at p) p (max p.moment at) come-alike f since

  room-read : first_refusal (room_tests t (come at p)) ≡ table false (start_in f p) (denied_at t (come at p))
  unfolding table
  room-read =
      ap (λ (b : Bool). table b (start_in (frame_of (max p.moment at) t) (come at p)) (denied_at t (come at p))) few
      ∙ ap (λ (o : Option ℕ). table false o (denied_at t (come at p))) start-read

  denied-read : denied_at t (come at p) ≡ cond (is_loose t) None (first_overfull p f.min f.from (At f.until))
  denied-read =
      sym (ap (λ (g : Frame). cond (is_loose t) None (first_overfull (come at p) g.min g.from (At g.until))) own)
      ∙ denied-same (come at p) p (max p.moment at) come-alike (is_loose t) f since

  pub offer-denied : None ≡ start_in f p
      → Err (DeniedByDrms (cond (is_loose t) None (first_overfull p f.min f.from (At f.until)))) ≡ refused_or (first_refusal (room_tests t (come at p))) (offered t (come at p))
  unfolding table
  offer-denied none =
      let is : first_refusal (room_tests t (come at p)) ≡ Some (DeniedByDrms (cond (is_loose t) None (first_overfull p f.min f.from (At f.until)))) =
      room-read ∙ ap (λ (o : Option ℕ). table false o (denied_at t (come at p))) (sym none) ∙ ap (table false None) denied-read in
      sym (ap (λ (o : Option Refusal). refused_or o (offered t (come at p))) is)

  pub offer-made : (from : ℕ) → Some from ≡ start_in f p → Ok (offer_at f p from) ≡ refused_or (first_refusal (room_tests t (come at p))) (offered t (come at p))
  unfolding table
  offer-made from found =
      let q = come at p in
      let g = frame_of (max p.moment at) t in
      let free : first_refusal (room_tests t q) ≡ None = room-read ∙ ap (λ (o : Option ℕ). table false o (denied_at t q)) (sym found) in
      let chosen : chosen_start t q ≡ from = ap (λ (o : Option ℕ). option_map_or (λ (x : ℕ). x) o 0) (start-read ∙ sym found) in
      let later : max p.moment at ≤ from = (let low = (start-is f p from (sym found)).since in omega arith) in
      let same : offered t q ≡ offer_at f p from =
      ap (offer_at g q) chosen ∙ sym (ap (λ (h : Frame). offer_at h q from) own)
      ∙ ap (λ (n : ℕ). let o : Offer = record { slots = n; from = from; until = from + f.span } in o) (slots-same q p (max p.moment at) come-alike f from later) in
      sym (ap (λ (o : Option Refusal). refused_or o (offered t q)) free ∙ ap (λ (o : Offer). let r : Result Offer Refusal = Ok o in r) same)

-- ---- what time does to the jobs makes no difference to a request

module _ (entry at : ℕ) (p : Plan) (fit : IsFit p) where
  alike : LoadsAlike (advance_plan entry at p) (come at p) (max p.moment at)
  alike = (seen-advance entry at p fit).loads

  room-same : (t : ReservationTemplate) → max p.moment at ≤ (frame_of (max p.moment at) t).from → first_refusal (room_tests t (advance_plan entry at p)) ≡ first_refusal (room_tests t (come at p))
  unfolding table
  room-same t since =
      let q = advance_plan entry at p in
      let f = frame_of (max p.moment at) t in
      let busy = leb most_reservations (length (come at p).reservations) in
      ap (λ (o : Option ℕ). table busy o (denied_at t q)) (start-same q (come at p) (max p.moment at) alike f since)
      ∙ ap (table busy (start_in f (come at p))) (denied-same q (come at p) (max p.moment at) alike (is_loose t) f since)

  refusal-same : (t : ReservationTemplate) → first_refusal (request_tests t (advance_plan entry at p)) ≡ first_refusal (request_tests t (come at p))
  refusal-same t =
      let m = max p.moment at in
      let q = advance_plan entry at p in
      let ts = frame_tests m t in
      (elim (first_refusal ts) as (λ (o : Option Refusal). first_refusal ts ≡ o → first_refusal (request_tests t q) ≡ first_refusal (request_tests t (come at p))) [
        | None ↦ λ free. passed_first ts (room_tests t q) free ∙ room-same t (frame-is m t free).since ∙ sym (passed_first ts (room_tests t (come at p)) free)
        | Some why ↦ λ e. refused_first ts (room_tests t q) why e ∙ sym (refused_first ts (room_tests t (come at p)) why e)
      ]) refl

  -- a request that is refused
  pub request-refused : (home : ℕ) (t : ReservationTemplate) (why : Refusal) → Err why ≡ refused_or (first_refusal (request_tests t (come at p))) (offered t (come at p))
      → (request home t).refusal (advance_plan entry at p) ≡ Some why
  request-refused home t why is = refusal-same t ∙ err-refused (first_refusal (request_tests t (come at p))) why (offered t (come at p)) is

  module _ (home : ℕ) (t : ReservationTemplate) (offer : Offer) (is : Ok offer ≡ refused_or (first_refusal (request_tests t (come at p))) (offered t (come at p))) where
    abbrev accepted : Accepted
    accepted = accepted_of p.next_reservation home t offer

    read : (first_refusal (request_tests t (come at p)) ≡ None) × (offer ≡ offered t (come at p))
    read = ok-free (first_refusal (request_tests t (come at p))) offer (offered t (come at p)) is

    pub request-passes : (request home t).refusal (advance_plan entry at p) ≡ None
    request-passes = refusal-same t ∙ read.0

    frame : IsFrame (max p.moment at) (frame_of (max p.moment at) t)
    frame = frame-is (max p.moment at) t (refusal-append (frame_tests (max p.moment at) t) (room_tests t (come at p)) read.0).0

    start : IsStart (frame_of (max p.moment at) t) (come at p) (chosen_start t (come at p))
    start = start-is (frame_of (max p.moment at) t) (come at p) (chosen_start t (come at p)) (request-start home t (come at p) read.0)

    same : offered t (advance_plan entry at p) ≡ offer
    same =
        let q = advance_plan entry at p in
        let f = frame_of (max p.moment at) t in
        let from = chosen_start t (come at p) in
        let found : chosen_start t q ≡ from = ap (λ (o : Option ℕ). option_map_or (λ (x : ℕ). x) o 0) (start-same q (come at p) (max p.moment at) alike f frame.since) in
        let later : max p.moment at ≤ from = (let low = start.since in let ahead = frame.since in omega arith) in
        ap (offer_at f q) found ∙ ap (λ (n : ℕ). let o : Offer = record { slots = n; from = from; until = from + f.span } in o) (slots-same q (come at p) (max p.moment at) alike f from later) ∙ sym read.1

    -- what it comes to
    pub request-comes : outcome (request home t) entry (advance_plan entry at p) ≡ record { answer = Ok (reserved_as accepted); plan = with_reservation accepted (advance_plan entry at p) }
    request-comes =
        let q = advance_plan entry at p in
        let make : Offer → Outcome Reserved = λ o. record { answer = Ok (reserved_as (accepted_of p.next_reservation home t o)); plan = with_reservation (accepted_of p.next_reservation home t o) q } in
        outcome-served (request home t) entry q request-passes ∙ ap make same

    pub request-fit : IsFit (with_reservation accepted (advance_plan entry at p))
    request-fit =
        let q = advance_plan entry at p in
        subst (λ (o : Offer). IsFit (with_reservation (accepted_of p.next_reservation home t o) q)) same ((request-keeps home t).keeps entry q (advance-fit entry at p fit) request-passes)

    pub request-free : (s : Schedule) → IsTied s p → IsFree s (booked_for accepted)
    request-free s tied =
        let f = frame_of (max p.moment at) t in
        let from = chosen_start t (come at p) in
        let later : max p.moment at ≤ from = (let low = start.since in let ahead = frame.since in omega arith) in
        let loads : LoadsAlike (come at p) p (max p.moment at) = record { total = refl; loads = λ x at_least. load-let_go at p x at_least } in
        let long : from < from + f.span = (let lasting = frame.lasting in omega arith) in
        let there : IsFree s (booked_for (accepted_of p.next_reservation home t (offered t (come at p)))) = record {
          lasting = lt-ltb from (from + f.span) long;
          fits = to-calendar s p fit tied (slots_in f (come at p) from) from (At (from + f.span)) (omega (arith, later))
              (sym (fits-same (come at p) p (slots_in f (come at p) from) from (At (from + f.span)) (max p.moment at) loads later) ∙ slots-fit f (come at p) from start);
          fresh = tied-next s p fit tied;
        } in
        subst (λ (o : Offer). IsFree s (booked_for (accepted_of p.next_reservation home t o))) (sym read.1) there
