use Rattle.std.proofs.Common.{subst, sym}
use Rattle.std.specs.List.{AllByRecursion}
use Rattle.plan_book.specs.Book.{plan_of}
use Rattle.plan_book.specs.Quiet.{IsAlarmed}
use Rattle.plan_book.proofs.book.Book.make_seats.Goals as goal

pub returns-in_err-reach-clause-quiet : goal.returns-in_err-reach-clause-quiet
returns-in_err-reach-clause-quiet c = λ quiet. (let then = c.reach.ensures.quiet (plan_of c.args.self.now) quiet in
    record { rows = then.rows; reservations = then.reservations; soonest = then.soonest; few = then.few })

pub returns-clause-quiet : goal.returns-clause-quiet
returns-clause-quiet c = λ quiet. (let then = c.reach.ensures.quiet (plan_of c.args.self.now) quiet in
    record {
      rows = subst (AllByRecursion (IsAlarmed c.reach.new.self.ends.items c.args.self.now.reservations.items)) (sym c.reach-2.ensures.items) then.rows;
      reservations = then.reservations;
      soonest = then.soonest;
      few = then.few;
    })
