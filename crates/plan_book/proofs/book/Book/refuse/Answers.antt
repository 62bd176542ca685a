use Rattle.std.proofs.Common.{refl, sym, ap, subst, arith}
use Rattle.drmaa_model.specs.Fit.{IsFit}
use Rattle.drmaa_model.specs.FitLaws.{advance-fit}
use Rattle.drmaa_model.specs.Size.{weight}
use Rattle.drmaa_model.specs.TimeLaws.{weight-advance}
use Rattle.plan_book.specs.Book.{plan_of, HasFewQueues}
use Rattle.plan_book.specs.MeetLaws.{barred-meets}
use Rattle.plan_book.specs.Occasions.Meets.{served}
use Rattle.plan_book.specs.TieLaws.{tied-then}
use Rattle.plan_book.proofs.book.Book.refuse.Goals as goal

pub returns-in-Err-clause-meets : goal.returns-in-Err-clause-meets
returns-in-Err-clause-meets g c =
    let same = weight-advance c.args.occasion.entry c.args.occasion.at (plan_of c.args.self.now) in
    let barred = c.in-Err.ensures {u = tt} in
    barred-meets c.args.occasion _ _ (plan_of c.args.self.now) _ _ barred.full barred.short (omega (arith, same, c.weight.ensures))

pub returns-clause-meets : goal.returns-clause-meets
returns-clause-meets g c =
    let same = weight-advance c.args.occasion.entry c.args.occasion.at (plan_of c.args.self.now) in
    served (record { answered = refl; plan = c.advance.ensures.plan; within = omega (arith, same, c.weight.ensures, (c.in_default.ensures {u = tt}).within); memory = (c.in_default.ensures {u = tt}).placed })

pub returns-clause-book : goal.returns-clause-book
returns-clause-book g c =
    let p = plan_of c.args.self.now in
    let same = weight-advance c.args.occasion.entry c.args.occasion.at p in
    let light = c.requires.book.light in
    record {
      room = c.advance.ensures.room;
      fit = subst IsFit (sym c.advance.ensures.plan) (advance-fit c.args.occasion.entry c.args.occasion.at p c.requires.book.fit);
      light = omega (arith, ap weight c.advance.ensures.plan, same);
      queues = subst HasFewQueues (sym c.advance.ensures.plan) c.requires.book.queues;
      tied = tied-then c.args.self.now.calendar c.advance.new.self.calendar c.args.occasion.entry c.args.occasion.at p (plan_of c.advance.new.self) c.requires.book.fit c.requires.book.tied c.advance.ensures.calendar c.advance.ensures.plan;
      quiet = c.advance.ensures.quiet;
    }
