use Rattle.std.proofs.Common.{◌≡◌, ℕ, Bool, List, filter, max, cond, not, Some, None, sym, ◌∙◌, ap}
use Rattle.std.proofs.lemmas.Result.{err_from_is_err_and}
use Rattle.drmaa_types.specs.declared.refusals.Refusal.TheVariants.{InvalidArgument}
use Rattle.drmaa_types.specs.declared.refusals.Which.TheVariants as which
use Rattle.drmaa_model.specs.declared.reservations.Accepted.{Accepted}
use Rattle.drmaa_model.specs.Requests.{end_reservation}
use Rattle.drmaa_model.specs.Time.{is_accepted, lasts}
use Rattle.plan_book.specs.Book.{plan_of}
use Rattle.plan_book.specs.Occasions.{plan_at}
use Rattle.scheduler_core.proofs.Steps.{unit-missed, unit-served}
use Rattle.scheduler_core.proofs.ViewSteps.{seen-meets, seen-refused}
use Rattle.scheduler_core.proofs.cores.Core.end_reservation.Goals as goal
use Rattle.scheduler_core.proofs.cores.Core.end_reservation.Goals.{After-is_lasting}

-- why it is refused, by whether the reservation lasts
asked : (c : After-is_lasting)
    → (end_reservation c.args.reservation).refusal (plan_at c.args.occasion (plan_of c.self.inside.book)) ≡ cond (not c.is_lasting.result) (Some (InvalidArgument which.Reservation)) None
asked c =
    let p = plan_of c.self.inside.book in
    let lasting : c.is_lasting.result ≡ is_accepted (filter (lasts (max p.moment c.args.occasion.at)) p.reservations) c.args.reservation =
    c.is_lasting.ensures ∙ ap (λ (m : ℕ). is_accepted (filter (lasts m) c.reservations.result.now.items) c.args.reservation) c.moment_at-moment.ensures
    ∙ ap (λ (rs : List Accepted). is_accepted (filter (lasts (max p.moment c.args.occasion.at)) rs) c.args.reservation) c.reservations.ensures in
    ap (λ (b : Bool). cond (not b) (Some (InvalidArgument which.Reservation)) None) (sym lasting)

pub returns-then-not-is_lasting-clause-meets : goal.returns-then-not-is_lasting-clause-meets
returns-then-not-is_lasting-clause-meets c =
    seen-refused (end_reservation c.args.reservation) c.args.occasion c.self.inside.book c.self.view_is (InvalidArgument which.Reservation) c.refuse.result (plan_of c.refuse.new.self)
    (asked (goal.at.returns-then-not-is_lasting-clause-meets c).After-is_lasting
    ∙ ap (λ (b : Bool). cond (not b) (Some (InvalidArgument which.Reservation)) None) c.if-not-is_lasting.true) c.refuse.ensures.meets

pub returns-clause-meets : goal.returns-clause-meets
returns-clause-meets c =
    let op = end_reservation c.args.reservation in
    let p = plan_of c.self.inside.book in
    let new = plan_of c.end_reservation.new.self in
    let free : op.refusal (plan_at c.args.occasion p) ≡ None = asked (goal.at.returns-clause-meets c).After-is_lasting ∙ ap (λ (b : Bool). cond (not b) (Some (InvalidArgument which.Reservation)) None) c.if-not-is_lasting.false in
    seen-meets op c.args.occasion c.self.inside.book c.self.view_is _ new (unit-served op c.args.occasion p new c.end_reservation.result free c.end_reservation.ensures.meets c.in_ok-end_reservation.field-0 (c.in_ok-end_reservation.was {u = tt}))

pub returns-in_err-end_reservation-clause-meets : goal.returns-in_err-end_reservation-clause-meets
returns-in_err-end_reservation-clause-meets c =
    let op = end_reservation c.args.reservation in
    let p = plan_of c.self.inside.book in
    let new = plan_of c.end_reservation.new.self in
    let free : op.refusal (plan_at c.args.occasion p) ≡ None = asked (goal.at.returns-in_err-end_reservation-clause-meets c).After-is_lasting ∙ ap (λ (b : Bool). cond (not b) (Some (InvalidArgument which.Reservation)) None) c.if-not-is_lasting.false in
    let e = err_from_is_err_and c.from_residual.result c.from_residual.ensures.1 in
    rw (e.1, e.2) (seen-meets op c.args.occasion c.self.inside.book c.self.view_is _ new (unit-missed op c.args.occasion p new c.end_reservation.result free c.end_reservation.ensures.meets c.in_err-end_reservation.field-0.0 (c.in_err-end_reservation.was {u = tt})))
