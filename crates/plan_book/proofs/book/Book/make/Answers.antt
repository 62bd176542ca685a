use Rattle.std.proofs.Common.{◌≡◌, ◌≤◌, max, refl, sym, ◌∙◌, ap, subst, arith}
use Rattle.std.proofs.lemmas.Result.{err_from_is_err_and}
use Rattle.drmaa_model.specs.Fit.{IsFit}
use Rattle.drmaa_model.specs.FitLaws.{advance-fit}
use Rattle.drmaa_model.specs.Size.{room_of, weight}
use Rattle.drmaa_model.specs.Plan.{Plan}
use Rattle.drmaa_model.specs.TimeLaws.{weight-advance}
use Rattle.reservation_calendar.specs.Schedules.{Schedule}
use Rattle.plan_book.specs.Book.{plan_of, moved, HasFewQueues}
use Rattle.plan_book.specs.MeetLaws.{barred-meets}
use Rattle.plan_book.specs.Occasions.{plan_at}
use Rattle.plan_book.specs.Occasions.Meets.{served, short}
use Rattle.plan_book.specs.Ties.{IsTied, let_go_of, booked_first, cancelled_last}
use Rattle.plan_book.specs.TieLaws.{tied-made}
use Rattle.plan_book.proofs.MoveLaws.{moved-weight, part-of}
use Rattle.plan_book.proofs.book.Book.make.Goals as goal
use Rattle.plan_book.proofs.book.Book.make.Goals.{After-weight_after, After-cancel_last}

-- the room of the job is among what is promised
pub weight_after-requires-clause-promised : goal.weight_after-requires-clause-promised
weight_after-requires-clause-promised c =
    let p = plan_of c.args.self.now in
    let fit = advance-fit c.args.occasion.entry c.args.occasion.at p c.requires.book.fit in
    let part : room_of c.args.m.now.before ≤ _ = part-of c.args.occasion.entry (plan_at c.args.occasion p) c.args.m.now fit c.requires.move_is room_of in
    omega (arith, weight-advance c.args.occasion.entry c.args.occasion.at p, part)

-- the weight in the end
size : (c : After-weight_after) → c.weight_after.result ≡ weight (moved c.args.occasion.entry c.args.m.now (plan_at c.args.occasion (plan_of c.args.self.now)))
size c =
    let p = plan_of c.args.self.now in
    let fit = advance-fit c.args.occasion.entry c.args.occasion.at p c.requires.book.fit in
    let after = moved-weight c.args.occasion.entry (plan_at c.args.occasion p) c.args.m.now fit c.requires.move_is in
    omega (arith, weight-advance c.args.occasion.entry c.args.occasion.at p, after, c.weight_after.ensures)

pub move_now-requires-clause-fit : goal.move_now-requires-clause-fit
move_now-requires-clause-fit c =
    subst IsFit (sym (c.advance.ensures.plan ∙ ap (plan_at c.args.occasion) c.make_room.ensures.plan)) (advance-fit c.args.occasion.entry c.args.occasion.at (plan_of c.args.self.now) c.requires.book.fit)

-- the plan in the end
plan : (c : After-cancel_last) → plan_of c.move_now.new.self ≡ moved c.args.occasion.entry c.args.m.now (plan_at c.args.occasion (plan_of c.args.self.now))
plan c = c.move_now.ensures.plan ∙ ap (moved c.args.occasion.entry c.args.m.now) (c.advance.ensures.plan ∙ ap (plan_at c.args.occasion) c.make_room.ensures.plan)

pub returns-clause-meets : goal.returns-clause-meets
returns-clause-meets c =
    let same = size (goal.at.returns-clause-meets c).After-weight_after in
    served (record { answered = refl; plan = plan c; within = omega (arith, same, (c.in_ok-admit.ensures {u = tt}).within); memory = (c.in_ok-admit.ensures {u = tt}).placed })

tied : (c : After-cancel_last) → IsTied c.cancel_last.new.calendar (plan_of c.move_now.new.self)
tied c =
    let p = plan_of c.args.self.now in
    let at = c.args.occasion.at in
    let b = c.args.m.now.booked in
    let j = c.args.m.now.job in
    let s = c.args.self.now.calendar in
    let calendar : c.cancel_last.new.calendar ≡ cancelled_last b j (let_go_of (max p.moment at) p.reservations (booked_first b s)) =
    c.cancel_last.ensures ∙ ap (cancelled_last b j) (c.move_now.ensures.calendar ∙ c.advance.ensures.calendar
    ∙ ap (λ (x : Plan). let_go_of (max x.moment at) x.reservations c.book_first.new.calendar) c.make_room.ensures.plan
    ∙ ap (let_go_of (max p.moment at) p.reservations) ((c.in_ok-book_first.ensures {u = tt}).booked ∙ ap (booked_first b) c.make_room.ensures.calendar)) in
    subst (λ (t : Schedule). IsTied t (plan_of c.move_now.new.self)) (sym calendar)
    (subst (IsTied (cancelled_last b j (let_go_of (max p.moment at) p.reservations (booked_first b s)))) (sym (plan c))
    (tied-made b j s c.args.occasion.entry at p (moved c.args.occasion.entry c.args.m.now (plan_at c.args.occasion p)) c.requires.beside c.requires.book.fit c.requires.book.tied c.requires.tie))

pub returns-clause-book : goal.returns-clause-book
returns-clause-book c = record {
  room = record { changes = c.move_now.ensures.room.changes; orders = c.move_now.ensures.room.orders };
  fit = subst IsFit (sym (plan c)) c.requires.fit;
  light = (let same = size (goal.at.returns-clause-book c).After-weight_after in omega (arith, ap weight (plan c), same, (c.in_ok-admit.ensures {u = tt}).within, c.args.occasion.limited));
  queues = subst HasFewQueues (sym (plan c)) c.requires.book.queues;
  tied = tied c;
  quiet = (let quiet = c.move_now.ensures.quiet in record { rows = quiet.rows; reservations = quiet.reservations; soonest = quiet.soonest; few = quiet.few });
}

pub returns-in_err-admit-clause-meets : goal.returns-in_err-admit-clause-meets
returns-in_err-admit-clause-meets c =
    let e = err_from_is_err_and c.from_residual.result c.from_residual.ensures.1 in
    let barred = c.in_err-admit.ensures {u = tt} in
    let same = size (goal.at.returns-in_err-admit-clause-meets c).After-weight_after in
    rw (e.1, e.2) (barred-meets c.args.occasion tt _ (plan_of c.args.self.now) _ _ barred.full barred.short (omega (arith, same)))

pub returns-in_err-make_room-clause-meets : goal.returns-in_err-make_room-clause-meets
returns-in_err-make_room-clause-meets c =
    let e = err_from_is_err_and c.from_residual-in_err-make_room.result c.from_residual-in_err-make_room.ensures.1 in
    let same = size (goal.at.returns-in_err-make_room-clause-meets c).After-weight_after in
    rw (e.1, e.2) (short (record { answered = refl; within = omega (arith, same, (c.in_ok-admit.ensures {u = tt}).within); plan = c.make_room.ensures.plan }))

pub returns-in_err-book_first-clause-meets : goal.returns-in_err-book_first-clause-meets
returns-in_err-book_first-clause-meets c =
    let e = err_from_is_err_and c.from_residual-in_err-book_first.result c.from_residual-in_err-book_first.ensures.1 in
    let same = size (goal.at.returns-in_err-book_first-clause-meets c).After-weight_after in
    let lacks = (c.in_err-book_first.ensures {u = tt}).memory in
    rw (e.1, e.2, lacks) (short (record { answered = refl; within = omega (arith, same, (c.in_ok-admit.ensures {u = tt}).within); plan = c.make_room.ensures.plan }))
