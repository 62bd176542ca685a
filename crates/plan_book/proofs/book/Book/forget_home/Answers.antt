use Rattle.std.proofs.Common.{◌≡◌, List, filter, map, not, refl, sym, ◌∙◌, ap, subst, arith}
use Rattle.drmaa_model.specs.declared.reservations.Accepted.{Accepted}
use Rattle.drmaa_model.specs.declared.rows.Row.{Row}
use Rattle.drmaa_model.specs.Effects.{left_by, is_forgotten, forget_home}
use Rattle.drmaa_model.specs.Fit.{IsFit}
use Rattle.drmaa_model.specs.FitLaws.{advance-fit}
use Rattle.drmaa_model.specs.HomeLaws.{forget-fit}
use Rattle.drmaa_model.specs.Plan.{Plan}
use Rattle.drmaa_model.specs.Size.{weight}
use Rattle.drmaa_model.specs.Time.{advance_plan}
use Rattle.drmaa_model.specs.TimeLaws.{weight-advance}
use Rattle.drmaa_model.specs.WeightLaws.{forget-weight}
use Rattle.plan_book.specs.Book.{plan_of, owed, owed_kills, HasFewQueues}
use Rattle.plan_book.specs.Quiet.{IsQuiet}
use Rattle.plan_book.specs.Ties.{IsTied}
use Rattle.plan_book.specs.TieLaws.{tied-then}
use Rattle.plan_book.proofs.AlarmLaws.{quiet-forgotten}
use Rattle.plan_book.proofs.ArrivalLaws.{forgot-owed, forgot-owed_kills, tied-forgot}
use Rattle.plan_book.proofs.book.Book.forget_home.Goals as goal
use Rattle.plan_book.proofs.book.Book.forget_home.Goals.{After-leave_reservations}

rows : (c : After-leave_reservations) → c.leave_rows.new.self.items
    ≡ map (λ (row : Row). record row { home = left_by c.args.home row.home }) (filter (λ (row : Row). not (is_forgotten c.args.home row)) c.advance.new.self.rows.items)
rows c = c.leave_rows.ensures.items ∙ ap (map (λ (row : Row). record row { home = left_by c.args.home row.home })) c.drop_forgotten.ensures.items

abbrev after : (c : After-leave_reservations) → Plan
after c = record (plan_of c.advance.new.self) { rows = c.leave_rows.new.self.items; reservations = c.leave_reservations.new.rs.items }

plan : (c : After-leave_reservations) → after c ≡ forget_home c.args.home (advance_plan c.args.entry c.args.at (plan_of c.args.self.now))
plan c =
    ap (λ (xs : List Row). let p : Plan = record (plan_of c.advance.new.self) { rows = xs; reservations = c.leave_reservations.new.rs.items } in p) (rows c)
    ∙ ap (λ (rs : List Accepted). let p : Plan = record (forget_home c.args.home (plan_of c.advance.new.self)) { reservations = rs } in p) c.leave_reservations.ensures
    ∙ ap (forget_home c.args.home) c.advance.ensures.plan

fit : (c : After-leave_reservations) → IsFit (advance_plan c.args.entry c.args.at (plan_of c.args.self.now))
fit c = advance-fit c.args.entry c.args.at (plan_of c.args.self.now) c.requires.book.fit

fit-then : (c : After-leave_reservations) → IsFit (plan_of c.advance.new.self)
fit-then c = subst IsFit (sym c.advance.ensures.plan) (fit c)

pub drop_forgotten-requires : goal.drop_forgotten-requires
drop_forgotten-requires c =
    (let then : IsFit (plan_of c.advance.new.self) = subst IsFit (sym c.advance.ensures.plan) (advance-fit c.args.entry c.args.at (plan_of c.args.self.now) c.requires.book.fit) in
    then.sound)

pub returns-clause-plan : goal.returns-clause-plan
returns-clause-plan c = plan c

pub returns-clause-size : goal.returns-clause-size
returns-clause-size c =
    let p = plan_of c.args.self.now in
    let q = advance_plan c.args.entry c.args.at p in
    let size = weight-advance c.args.entry c.args.at p in
    let same = forget-weight c.args.home q (fit c) in
    omega (arith, ap weight (plan c), size, same)

pub returns-clause-book : goal.returns-clause-book
returns-clause-book c =
    let p = plan_of c.args.self.now in
    let q = advance_plan c.args.entry c.args.at p in
    let sound = (fit-then c).sound in
    let old = c.advance.new.self.rows.items in
    let size = weight-advance c.args.entry c.args.at p in
    let same = forget-weight c.args.home q (fit c) in
    record {
      room = record {
        changes = omega (arith, ap owed (rows c), forgot-owed c.args.home old sound, c.advance.ensures.room.changes);
        orders = omega (arith, ap owed_kills (rows c), forgot-owed_kills c.args.home old sound, c.advance.ensures.room.orders);
      };
      fit = subst IsFit (sym (plan c)) (forget-fit c.args.home q (fit c));
      light = omega (arith, ap weight (plan c), size, same, c.requires.book.light);
      queues = subst HasFewQueues (sym (plan c)) c.requires.book.queues;
      tied = subst (IsTied c.advance.new.self.calendar) (sym (plan c))
          (tied-forgot c.advance.new.self.calendar c.args.home q (fit c)
          (tied-then c.args.self.now.calendar c.advance.new.self.calendar c.args.entry c.args.at p q c.requires.book.fit c.requires.book.tied c.advance.ensures.calendar refl));
      quiet = subst (IsQuiet c.advance.new.self.alarm) (sym (plan c))
          (subst (λ (x : Plan). IsQuiet c.advance.new.self.alarm (forget_home c.args.home x)) c.advance.ensures.plan
          (quiet-forgotten c.advance.new.self.alarm c.args.home (plan_of c.advance.new.self) c.advance.ensures.quiet));
    }

pub returns-clause-spare : goal.returns-clause-spare
returns-clause-spare c =
    let same = forgot-owed c.args.home c.advance.new.self.rows.items (fit-then c).sound in
    omega (arith, ap owed (rows c), same, c.advance.ensures.spare)
