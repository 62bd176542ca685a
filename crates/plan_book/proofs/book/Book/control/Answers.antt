use Rattle.std.proofs.Common.{rules, ◌≡◌, ◌≤◌, ◌+◌, max, refl, sym, ◌∙◌, ap, subst, arith}
use Rattle.std.proofs.lemmas.Result.{err_from_is_err_and}
use Rattle.drmaa_model.specs.Controlling.{control}
use Rattle.drmaa_model.specs.ControlLaws.{control-fit}
use Rattle.drmaa_model.specs.Fit.{IsFit}
use Rattle.drmaa_model.specs.FitLaws.{advance-fit}
use Rattle.drmaa_model.specs.Plan.{Plan}
use Rattle.drmaa_model.specs.Size.{weight}
use Rattle.drmaa_model.specs.Time.{rows_at}
use Rattle.drmaa_model.specs.TimeLaws.{weight-advance}
use Rattle.reservation_calendar.specs.Schedules.{Schedule}
use Rattle.plan_book.specs.Book.{plan_of, spare, spare_orders, HasFewQueues}
use Rattle.plan_book.specs.MeetLaws.{barred-meets}
use Rattle.plan_book.specs.Occasions.{plan_at}
use Rattle.plan_book.specs.Occasions.Meets.{served, short}
use Rattle.plan_book.specs.Sweeps.{acted, growth, most_orders}
use Rattle.plan_book.specs.Ties.{IsTied, let_go_of}
use Rattle.plan_book.specs.TieLaws.{tied-advance}
use Rattle.plan_book.proofs.SweepLaws.{control-size, tied-controlled}
use Rattle.plan_book.proofs.book.Book.control.Goals as goal
use Rattle.plan_book.proofs.book.Book.control.Goals.{After-growth, After-control_now}

pub control_now-requires-clause-fit : goal.control_now-requires-clause-fit
control_now-requires-clause-fit c =
    subst IsFit (sym (c.advance.ensures.plan ∙ ap (plan_at c.args.occasion) c.make_share.ensures.plan)) (advance-fit c.args.occasion.entry c.args.occasion.at (plan_of c.args.self.now) c.requires.book.fit)

pub control_now-requires-clause-changes : goal.control_now-requires-clause-changes
control_now-requires-clause-changes c =
    let t = c.args.target.now in
    let what = c.args.what in
    let count : acted t what c.advance.new.self.rows.items ≡ c.acted-acted.result =
    ap (λ (p : Plan). acted t what p.rows) (c.advance.ensures.plan ∙ ap (plan_at c.args.occasion) c.make_share.ensures.plan) ∙ sym c.acted-acted.ensures.value in
    let grows : growth what (acted t what c.advance.new.self.rows.items) ≡ c.growth-2.result = ap (growth what) count ∙ sym c.growth-2.ensures.value in
    let room : c.growth-2.result ≤ spare c.make_share.new.self = search rules in
    omega (arith, grows, room, c.advance.ensures.spare)

pub control_now-requires-clause-orders : goal.control_now-requires-clause-orders
control_now-requires-clause-orders c =
    let t = c.args.target.now in
    let what = c.args.what in
    let count : acted t what c.advance.new.self.rows.items ≡ c.acted-acted.result =
    ap (λ (p : Plan). acted t what p.rows) (c.advance.ensures.plan ∙ ap (plan_at c.args.occasion) c.make_share.ensures.plan) ∙ sym c.acted-acted.ensures.value in
    let asks : most_orders what (acted t what c.advance.new.self.rows.items) ≡ c.most_orders.result = ap (most_orders what) count ∙ sym c.most_orders.ensures.value in
    let room : c.most_orders.result ≤ spare_orders c.make_share.new.self = search rules in
    omega (arith, asks, room, c.advance.ensures.spare_orders)

plan : (c : After-control_now) → plan_of c.control_now.new.self ≡ (control c.args.target.now c.args.what).effect c.args.occasion.entry (plan_at c.args.occasion (plan_of c.args.self.now))
plan c = c.control_now.ensures.plan ∙ ap ((control c.args.target.now c.args.what).effect c.args.occasion.entry) (c.advance.ensures.plan ∙ ap (plan_at c.args.occasion) c.make_share.ensures.plan)

-- the weight in the end
size : (c : After-growth) → c.weight.result + c.growth.result ≡ weight ((control c.args.target.now c.args.what).effect c.args.occasion.entry (plan_at c.args.occasion (plan_of c.args.self.now)))
size c =
    let q = plan_at c.args.occasion (plan_of c.args.self.now) in
    let grows : growth c.args.what (acted c.args.target.now c.args.what q.rows) ≡ c.growth.result = ap (growth c.args.what) (sym c.acted-acted.ensures.value) ∙ sym c.growth.ensures.value in
    omega (arith, grows, c.weight.ensures, weight-advance c.args.occasion.entry c.args.occasion.at (plan_of c.args.self.now), control-size c.args.target.now c.args.what c.args.occasion.entry q)

pub returns-clause-meets : goal.returns-clause-meets
returns-clause-meets c =
    let same = size (goal.at.returns-clause-meets c).After-growth in
    served (record { answered = refl; plan = plan c; within = omega (arith, same, (c.in_ok-admit.ensures {u = tt}).within); memory = (c.in_ok-admit.ensures {u = tt}).placed })

tied : (c : After-control_now) → IsTied c.control_now.new.self.calendar (plan_of c.control_now.new.self)
tied c =
    let p = plan_of c.args.self.now in
    let at = c.args.occasion.at in
    let s = c.args.self.now.calendar in
    let calendar : c.control_now.new.self.calendar ≡ let_go_of (max p.moment at) p.reservations s =
    c.control_now.ensures.calendar ∙ c.advance.ensures.calendar
    ∙ ap (λ (x : Plan). let_go_of (max x.moment at) x.reservations c.make_share.new.self.calendar) c.make_share.ensures.plan
    ∙ ap (let_go_of (max p.moment at) p.reservations) c.make_share.ensures.calendar in
    subst (λ (t : Schedule). IsTied t (plan_of c.control_now.new.self)) (sym calendar)
    (subst (IsTied (let_go_of (max p.moment at) p.reservations s)) (sym (plan c))
    (tied-controlled (let_go_of (max p.moment at) p.reservations s) c.args.target.now c.args.what c.args.occasion.entry (plan_at c.args.occasion p)
    (advance-fit c.args.occasion.entry at p c.requires.book.fit) (tied-advance s c.args.occasion.entry at p c.requires.book.fit c.requires.book.tied)))

pub returns-clause-book : goal.returns-clause-book
returns-clause-book c = record {
  room = c.control_now.ensures.room;
  fit = subst IsFit (sym (plan c)) (control-fit c.args.target.now c.args.what c.args.occasion.entry (plan_at c.args.occasion (plan_of c.args.self.now)) (advance-fit c.args.occasion.entry c.args.occasion.at (plan_of c.args.self.now) c.requires.book.fit));
  light = (let same = size (goal.at.returns-clause-book c).After-growth in omega (arith, ap weight (plan c), same, (c.in_ok-admit.ensures {u = tt}).within, c.args.occasion.limited));
  queues = subst HasFewQueues (sym (plan c)) c.requires.book.queues;
  tied = tied c;
  quiet = c.control_now.ensures.quiet c.advance.ensures.quiet;
}

pub returns-clause-spare : goal.returns-clause-spare
returns-clause-spare c =
    let t = c.args.target.now in
    let what = c.args.what in
    let same : growth what (acted t what c.advance.new.self.rows.items) ≡ growth what (acted t what (rows_at c.args.occasion.at (plan_of c.args.self.now))) =
    ap (λ (p : Plan). growth what (acted t what p.rows)) (c.advance.ensures.plan ∙ ap (plan_at c.args.occasion) c.make_share.ensures.plan) in
    omega (arith, same, c.control_now.ensures.spare, c.advance.ensures.spare, c.make_share.ensures.more)

pub returns-in_err-admit-clause-meets : goal.returns-in_err-admit-clause-meets
returns-in_err-admit-clause-meets c =
    let e = err_from_is_err_and c.from_residual.result c.from_residual.ensures.1 in
    let barred = c.in_err-admit.ensures {u = tt} in
    let same = size (goal.at.returns-in_err-admit-clause-meets c).After-growth in
    rw (e.1, e.2) (barred-meets c.args.occasion tt _ (plan_of c.args.self.now) _ _ barred.full barred.short (omega (arith, same)))

pub returns-in_err-make_share-clause-meets : goal.returns-in_err-make_share-clause-meets
returns-in_err-make_share-clause-meets c =
    let e = err_from_is_err_and c.from_residual-in_err-make_share.result c.from_residual-in_err-make_share.ensures.1 in
    let same = size (goal.at.returns-in_err-make_share-clause-meets c).After-growth in
    rw (e.1, e.2) (short (record { answered = refl; within = omega (arith, same, (c.in_ok-admit.ensures {u = tt}).within); plan = c.make_share.ensures.plan }))
