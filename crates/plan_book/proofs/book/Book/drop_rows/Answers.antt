use Rattle.std.proofs.Common.{◌≡◌, List, filter, not, ◌&&◌, refl, sym, ◌∙◌, ap, subst, arith}
use Rattle.std.proofs.lemmas.Result.{err_from_is_err_and}
use Rattle.std.specs.List.{AllByRecursion}
use Rattle.drmaa_model.specs.declared.rows.Row.{Row}
use Rattle.drmaa_model.specs.Controlling.{is_done, reap}
use Rattle.drmaa_model.specs.ControlLaws.{reap-fit}
use Rattle.drmaa_model.specs.Fit.{IsFit}
use Rattle.drmaa_model.specs.FitLaws.{advance-fit}
use Rattle.drmaa_model.specs.Plan.{Plan}
use Rattle.drmaa_model.specs.Size.{weight}
use Rattle.drmaa_model.specs.Targets.{is_meant}
use Rattle.drmaa_model.specs.TimeLaws.{weight-advance}
use Rattle.plan_book.specs.Book.{plan_of, owed, owed_kills, HasFewQueues}
use Rattle.plan_book.specs.MeetLaws.{barred-meets}
use Rattle.plan_book.specs.Occasions.{plan_at}
use Rattle.plan_book.specs.Occasions.Meets.{served}
use Rattle.plan_book.specs.Quiet.{IsAlarmed}
use Rattle.plan_book.specs.Ties.{IsTied}
use Rattle.plan_book.specs.TieLaws.{tied-then}
use Rattle.plan_book.proofs.AlarmLaws.{quiet-left}
use Rattle.plan_book.proofs.ArrivalLaws.{left-owed, left-owed_kills, reaped-weight, tied-reaped}
use Rattle.plan_book.proofs.book.Book.drop_rows.Goals as goal
use Rattle.plan_book.proofs.book.Book.drop_rows.Goals.{After-weight, After-drop_done}

abbrev left : (c : After-drop_done) → Plan
left c = (reap c.args.target.now).effect c.args.occasion.entry (plan_at c.args.occasion (plan_of c.args.self.now))

abbrev after : (c : After-drop_done) → Plan
after c = record (plan_of c.advance.new.self) { rows = c.drop_done.new.self.items }

plan : (c : After-drop_done) → after c ≡ left c
plan c =
    ap (λ (rs : List Row). let p : Plan = record (plan_of c.advance.new.self) { rows = rs } in p) c.drop_done.ensures.items
    ∙ ap (λ (p : Plan). let q : Plan = record p { rows = filter (λ (r : Row). not (is_meant c.args.target.now r && is_done r)) p.rows } in q) c.advance.ensures.plan

fit : (c : After-drop_done) → IsFit (plan_at c.args.occasion (plan_of c.args.self.now))
fit c = advance-fit c.args.occasion.entry c.args.occasion.at (plan_of c.args.self.now) c.requires.book.fit

fit-then : (c : After-drop_done) → IsFit (plan_of c.advance.new.self)
fit-then c = subst IsFit (sym c.advance.ensures.plan) (fit c)

pub drop_done-requires : goal.drop_done-requires
drop_done-requires c =
    (let then : IsFit (plan_of c.advance.new.self) = subst IsFit (sym c.advance.ensures.plan) (advance-fit c.args.occasion.entry c.args.occasion.at (plan_of c.args.self.now) c.requires.book.fit) in
    record { rising = then.jobs.rising; sound = then.sound })

-- the weight in the end
size : (c : After-weight) → c.weight.result ≡ weight ((reap c.args.target.now).effect c.args.occasion.entry (plan_at c.args.occasion (plan_of c.args.self.now)))
size c =
    let p = plan_of c.args.self.now in
    let same = reaped-weight c.args.target.now (plan_at c.args.occasion p) (advance-fit c.args.occasion.entry c.args.occasion.at p c.requires.book.fit) in
    omega (arith, weight-advance c.args.occasion.entry c.args.occasion.at p, same, c.weight.ensures)

pub returns-clause-meets : goal.returns-clause-meets
returns-clause-meets c =
    let same = size (goal.at.returns-clause-meets c).After-weight in
    served (record { answered = refl; plan = plan c; within = omega (arith, same, (c.in_ok-admit.ensures {u = tt}).within); memory = (c.in_ok-admit.ensures {u = tt}).placed })

pub returns-clause-book : goal.returns-clause-book
returns-clause-book c =
    let p = plan_of c.args.self.now in
    let q = plan_at c.args.occasion p in
    let t = c.args.target.now in
    let sound = (fit-then c).sound in
    let rows = c.advance.new.self.rows.items in
    let same = size (goal.at.returns-clause-book c).After-weight in
    record {
      room = record {
        changes = omega (arith, ap owed c.drop_done.ensures.items, left-owed (is_meant t) rows sound, c.advance.ensures.room.changes);
        orders = omega (arith, ap owed_kills c.drop_done.ensures.items, left-owed_kills (is_meant t) rows sound, c.advance.ensures.room.orders);
      };
      fit = subst IsFit (sym (plan c)) (reap-fit t c.args.occasion.entry q (fit c));
      light = omega (arith, ap weight (plan c), same, c.weight.ensures, c.requires.book.light);
      queues = subst HasFewQueues (sym (plan c)) c.requires.book.queues;
      tied = subst (IsTied c.advance.new.self.calendar) (sym (plan c))
          (tied-reaped c.advance.new.self.calendar t q (fit c)
          (tied-then c.args.self.now.calendar c.advance.new.self.calendar c.args.occasion.entry c.args.occasion.at p q c.requires.book.fit c.requires.book.tied c.advance.ensures.calendar refl));
      quiet = (let was = c.advance.new.self in let left = quiet-left was.alarm (λ (r : Row). not (is_meant t r && is_done r)) (plan_of was) c.advance.ensures.quiet in
          record { rows = subst (AllByRecursion (IsAlarmed was.alarm.ends.items was.reservations.items)) (sym c.drop_done.ensures.items) left.rows; reservations = left.reservations; soonest = left.soonest; few = left.few });
    }

pub returns-clause-spare : goal.returns-clause-spare
returns-clause-spare c =
    let same = left-owed (is_meant c.args.target.now) c.advance.new.self.rows.items (fit-then c).sound in
    omega (arith, ap owed c.drop_done.ensures.items, same, c.advance.ensures.spare)

pub returns-in_err-admit-clause-meets : goal.returns-in_err-admit-clause-meets
returns-in_err-admit-clause-meets c =
    let e = err_from_is_err_and c.from_residual.result c.from_residual.ensures.1 in
    let barred = c.in_err-admit.ensures {u = tt} in
    let same = size (goal.at.returns-in_err-admit-clause-meets c).After-weight in
    rw (e.1, e.2) (barred-meets c.args.occasion tt _ (plan_of c.args.self.now) _ _ barred.full barred.short (omega (arith, same)))
