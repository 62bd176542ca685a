use Rattle.std.proofs.Common.{◌≡◌, ℕ, Option, Ok, sym, ◌∙◌, ap, subst, arith}
use Rattle.std.proofs.lemmas.Bool.{false≢true}
use Rattle.std.specs.Prelude.{◌≢◌, IsSome, Err}
use Rattle.drmaa_types.specs.declared.infos.Reserved.{Reserved}
use Rattle.drmaa_types.specs.declared.refusals.Refusal.{Refusal}
use Rattle.drmaa_model.specs.declared.faults.NoEntry.TheVariants.{OutOfMemory}
use Rattle.drmaa_model.specs.declared.reservations.Accepted.{Accepted}
use Rattle.drmaa_model.specs.Fit.{IsFit}
use Rattle.drmaa_model.specs.Operation.{Outcome, outcome}
use Rattle.drmaa_model.specs.Requests.{request, reserved_as, with_reservation}
use Rattle.plan_book.specs.Book.{plan_of}
use Rattle.plan_book.specs.Occasions.{Meets, plan_at}
use Rattle.plan_book.specs.Ties.{IsFree, booked_for}
use Rattle.scheduler_core.specs.Requesting.{accepted_of}
use Rattle.scheduler_core.specs.View.{View}
use Rattle.scheduler_core.proofs.OfferLaws.{request-refused, request-passes, request-comes, request-fit, request-free}
use Rattle.scheduler_core.proofs.ViewSteps.{seen-meets, seen-refused}
use Rattle.scheduler_core.proofs.cores.Core.request_reservation.Goals as goal
use Rattle.scheduler_core.proofs.cores.Core.request_reservation.Goals.{After-accepted_of-accepted}

-- the reservation of the offer
accepted : (c : After-accepted_of-accepted) → c.accepted_of-accepted.result ≡ accepted_of (plan_of c.self.inside.book).next_reservation c.args.home c.args.template c.in-Ok.offer
accepted c = c.accepted_of-accepted.ensures ∙ ap (λ (n : ℕ). accepted_of n c.args.home c.args.template c.in-Ok.offer) c.next_reservation.ensures

pub accept-requires-clause-next : goal.accept-requires-clause-next
accept-requires-clause-next c =
    let seen = ap (λ (v : View). v.plan.next_reservation) c.self.view_is in
    let number = c.requires.number in
    let few = c.args.occasion.numbered in
    omega (arith, seen, number, few)

pub accept-requires-clause-free : goal.accept-requires-clause-free
accept-requires-clause-free c =
    let book = c.self.inside.book in
    subst (λ (a : Accepted). IsFree book.calendar (booked_for a)) (sym (accepted (goal.at.accept-requires-clause-free c).After-accepted_of-accepted))
    (request-free c.args.occasion.entry c.args.occasion.at (plan_of book) c.self.invariant.fit c.args.home c.args.template c.in-Ok.offer (c.in-Ok.ensures {u = tt}) book.calendar c.self.invariant.tied)

pub accept-requires-clause-fit : goal.accept-requires-clause-fit
accept-requires-clause-fit c =
    let p = plan_of c.self.inside.book in
    subst (λ (a : Accepted). IsFit (with_reservation a (plan_at c.args.occasion p))) (sym (accepted (goal.at.accept-requires-clause-fit c).After-accepted_of-accepted))
    (request-fit c.args.occasion.entry c.args.occasion.at p c.self.invariant.fit c.args.home c.args.template c.in-Ok.offer (c.in-Ok.ensures {u = tt}))

pub returns-in-Err-clause-meets : goal.returns-in-Err-clause-meets
returns-in-Err-clause-meets c =
    seen-refused (request c.args.home c.args.template) c.args.occasion c.self.inside.book c.self.view_is c.in-Err.why c.refuse.result (plan_of c.refuse.new.self)
    (request-refused c.args.occasion.entry c.args.occasion.at (plan_of c.self.inside.book) c.self.invariant.fit c.args.home c.args.template c.in-Err.why (c.in-Err.ensures {u = tt})) c.refuse.ensures.meets

pub returns-in-Ok-clause-meets : goal.returns-in-Ok-clause-meets
returns-in-Ok-clause-meets c =
    let p = plan_of c.self.inside.book in
    let q = plan_at c.args.occasion p in
    let made : Accepted → Outcome Reserved = λ a. record { answer = Ok (reserved_as a); plan = with_reservation a q } in
    let comes : outcome (request c.args.home c.args.template) c.args.occasion.entry q ≡ made c.accepted_of-accepted.result =
    request-comes c.args.occasion.entry c.args.occasion.at p c.self.invariant.fit c.args.home c.args.template c.in-Ok.offer (c.in-Ok.ensures {u = tt})
    ∙ ap made (sym (accepted (goal.at.returns-in-Ok-clause-meets c).After-accepted_of-accepted)) in
    seen-meets (request c.args.home c.args.template) c.args.occasion c.self.inside.book c.self.view_is c.accept.result (plan_of c.accept.new.book)
    (subst (λ (o : Outcome Reserved). Meets c.args.occasion o.answer o.plan p c.accept.result (plan_of c.accept.new.book)) (sym comes) c.accept.ensures.meets)

pub returns-in-Ok-clause-memory : goal.returns-in-Ok-clause-memory
returns-in-Ok-clause-memory c = λ has.
    (subst (λ (v : View). IsSome ((request c.args.home c.args.template).refusal (plan_at c.args.occasion v.plan)) → c.accept.result ≢ Err OutOfMemory) c.self.view_is
    (λ there.
    (let free = request-passes c.args.occasion.entry c.args.occasion.at (plan_of c.self.inside.book) c.self.invariant.fit c.args.home c.args.template c.in-Ok.offer (c.in-Ok.ensures {u = tt}) in
    absurd (false≢true (subst (λ (o : Option Refusal). IsSome o) free there)))))
