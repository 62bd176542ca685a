use Rattle.std.proofs.Common.{◌≡◌, ℕ, false, leb, length, filter, Option, Err, Ok, sym, ◌∙◌, ap}
use Rattle.std.specs.Prelude.{Result}
use Rattle.drmaa_types.specs.declared.refusals.Refusal.{Refusal}
use Rattle.drmaa_types.specs.declared.refusals.Refusal.TheVariants.{DeniedByDrms}
use Rattle.drmaa_model.specs.Requests.{most_reservations}
use Rattle.drmaa_model.specs.Time.{lasts}
use Rattle.plan_book.specs.Book.{plan_of}
use Rattle.scheduler_core.specs.declared.requests.Offer.{Offer}
use Rattle.scheduler_core.specs.Requesting.{come}
use Rattle.scheduler_core.proofs.OfferLaws.{offer-denied, offer-made}
use Rattle.scheduler_core.proofs.requests.offer_in.Goals as goal
use Rattle.scheduler_core.proofs.requests.offer_in.Goals.{After-start_in}

few : (c : After-start_in) → leb most_reservations (length (come c.args.at (plan_of c.args.book.now)).reservations) ≡ false
few c =
    let rs = c.args.book.now.reservations.items in
    sym (c.is_full.ensures ∙ ap (λ (m : ℕ). leb most_reservations (length (filter (lasts m) rs))) c.moment_at.ensures) ∙ c.if-is_full.false

pub returns-in-None : goal.returns-in-None
returns-in-None c =
    let p = plan_of c.args.book.now in
    ap (λ (o : Option ℕ). let r : Result Offer Refusal = Err (DeniedByDrms o) in r) c.denied_at.ensures
    ∙ offer-denied c.args.at p c.args.t.now c.args.frame.now c.requires.frame_of c.requires.frame.since (few c.before.before) (sym c.in-None.is ∙ c.start_in.ensures)

pub returns-in-Some : goal.returns-in-Some
returns-in-Some c =
    let p = plan_of c.args.book.now in
    ap (λ (o : Offer). let r : Result Offer Refusal = Ok o in r) c.offer_from.ensures
    ∙ offer-made c.args.at p c.args.t.now c.args.frame.now c.requires.frame_of c.requires.frame.since (few c.before.before) c.in-Some.from (sym c.in-Some.is ∙ c.start_in.ensures)
