use Rattle.std.proofs.Common.{◌≡◌, ◌∷◌, [], ◌++◌, max, refl, sym, ◌∙◌, ap, subst, arith}
use Rattle.std.proofs.lemmas.Result.{err_from_is_err_and}
use Rattle.drmaa_model.specs.Fit.{IsFit}
use Rattle.drmaa_model.specs.Plan.{Plan}
use Rattle.drmaa_model.specs.Requests.{with_reservation}
use Rattle.drmaa_model.specs.Size.{weight}
use Rattle.drmaa_model.specs.TimeLaws.{weight-advance}
use Rattle.reservation_calendar.specs.Schedules.{Schedule}
use Rattle.plan_book.specs.Book.{plan_of, HasFewQueues}
use Rattle.plan_book.specs.MeetLaws.{barred-meets}
use Rattle.plan_book.specs.Occasions.{plan_at}
use Rattle.plan_book.specs.Occasions.Meets.{served, short}
use Rattle.plan_book.specs.Ties.{IsTied, booked_for, let_go_of}
use Rattle.plan_book.specs.TieLaws.{tied-reserved}
use Rattle.plan_book.proofs.book.Book.accept.Goals as goal
use Rattle.plan_book.proofs.book.Book.accept.Goals.{After-put_reservation}

plan : (c : After-put_reservation) → plan_of c.put_reservation.new.self ≡ with_reservation c.args.accepted (plan_at c.args.occasion (plan_of c.args.self.now))
plan c = c.put_reservation.ensures.plan ∙ ap (with_reservation c.args.accepted) (c.advance.ensures.plan ∙ ap (plan_at c.args.occasion) c.make_place.ensures.plan)

pub returns-clause-meets : goal.returns-clause-meets
returns-clause-meets c =
    let size = weight-advance c.args.occasion.entry c.args.occasion.at (plan_of c.args.self.now) in
    served (record { answered = refl; plan = plan c; within = omega (arith, size, c.weight.ensures, (c.in_ok-admit.ensures {u = tt}).within); memory = (c.in_ok-admit.ensures {u = tt}).placed })

tied : (c : After-put_reservation) → IsTied c.put_reservation.new.self.calendar (plan_of c.put_reservation.new.self)
tied c =
    let p = plan_of c.args.self.now in
    let at = c.args.occasion.at in
    let s = c.args.self.now.calendar in
    let booked : Schedule = record s { bookings = s.bookings ++ booked_for c.args.accepted ∷ [] } in
    let calendar : c.put_reservation.new.self.calendar ≡ let_go_of (max p.moment at) p.reservations booked =
    c.put_reservation.ensures.calendar ∙ c.advance.ensures.calendar
    ∙ ap (λ (x : Plan). let_go_of (max x.moment at) x.reservations c.book_accepted.new.calendar) c.make_place.ensures.plan
    ∙ ap (let_go_of (max p.moment at) p.reservations) ((c.in_ok-book_accepted.ensures {u = tt}).booked
    ∙ ap (λ (x : Schedule). let t : Schedule = record x { bookings = x.bookings ++ booked_for c.args.accepted ∷ [] } in t) c.make_place.ensures.calendar) in
    subst (λ (t : Schedule). IsTied t (plan_of c.put_reservation.new.self)) (sym calendar)
    (subst (IsTied (let_go_of (max p.moment at) p.reservations booked)) (sym (plan c))
    (tied-reserved s c.args.occasion.entry at p c.args.accepted c.requires.book.fit c.requires.book.tied c.requires.number))

pub returns-clause-book : goal.returns-clause-book
returns-clause-book c =
    let size = weight-advance c.args.occasion.entry c.args.occasion.at (plan_of c.args.self.now) in
    record {
      room = c.put_reservation.ensures.room;
      fit = subst IsFit (sym (plan c)) c.requires.fit;
      light = omega (arith, ap weight (plan c), size, c.requires.book.light);
      queues = subst HasFewQueues (sym (plan c)) c.requires.book.queues;
      tied = tied c;
      quiet = c.put_reservation.ensures.quiet;
    }

pub returns-in_err-admit-clause-meets : goal.returns-in_err-admit-clause-meets
returns-in_err-admit-clause-meets c =
    let size = weight-advance c.args.occasion.entry c.args.occasion.at (plan_of c.args.self.now) in
    let e = err_from_is_err_and c.from_residual.result c.from_residual.ensures.1 in
    let barred = c.in_err-admit.ensures {u = tt} in
    rw (e.1, e.2) (barred-meets c.args.occasion tt _ (plan_of c.args.self.now) _ _ barred.full barred.short (omega (arith, size, c.weight.ensures)))

pub returns-in_err-make_place-clause-meets : goal.returns-in_err-make_place-clause-meets
returns-in_err-make_place-clause-meets c =
    let size = weight-advance c.args.occasion.entry c.args.occasion.at (plan_of c.args.self.now) in
    let e = err_from_is_err_and c.from_residual-in_err-make_place.result c.from_residual-in_err-make_place.ensures.1 in
    rw (e.1, e.2) (short (record { answered = refl; within = omega (arith, size, c.weight.ensures, (c.in_ok-admit.ensures {u = tt}).within); plan = c.make_place.ensures.plan }))

pub returns-in_err-book_accepted-clause-meets : goal.returns-in_err-book_accepted-clause-meets
returns-in_err-book_accepted-clause-meets c =
    let size = weight-advance c.args.occasion.entry c.args.occasion.at (plan_of c.args.self.now) in
    let e = err_from_is_err_and c.from_residual-in_err-book_accepted.result c.from_residual-in_err-book_accepted.ensures.1 in
    let lacks = (c.in_err-book_accepted.ensures {u = tt}).memory in
    rw (e.1, e.2, lacks) (short (record { answered = refl; within = omega (arith, size, c.weight.ensures, (c.in_ok-admit.ensures {u = tt}).within); plan = c.make_place.ensures.plan }))
