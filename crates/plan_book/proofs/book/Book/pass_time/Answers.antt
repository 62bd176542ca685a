use Rattle.plan_book.specs.TieLaws.{tied-then}
use Rattle.std.proofs.Common.{sym, ◌∙◌, ap, subst, arith}
use Rattle.drmaa_model.specs.Fit.{IsFit}
use Rattle.drmaa_model.specs.FitLaws.{advance-fit}
use Rattle.drmaa_model.specs.Size.{weight}
use Rattle.drmaa_model.specs.TimeLaws.{weight-advance}
use Rattle.plan_book.specs.Book.{plan_of, HasFewQueues}
use Rattle.plan_book.proofs.book.Book.pass_time.Goals as goal

pub returns-clause-size : goal.returns-clause-size
returns-clause-size c = ap weight c.advance.ensures.plan ∙ weight-advance c.args.entry c.args.at (plan_of c.args.self.now)

pub returns-clause-book : goal.returns-clause-book
returns-clause-book c =
    let p = plan_of c.args.self.now in
    let same = weight-advance c.args.entry c.args.at p in
    record {
      room = c.advance.ensures.room;
      fit = subst IsFit (sym c.advance.ensures.plan) (advance-fit c.args.entry c.args.at p c.requires.book.fit);
      light = omega (arith, ap weight c.advance.ensures.plan, same, c.requires.book.light);
      queues = subst HasFewQueues (sym c.advance.ensures.plan) c.requires.book.queues;
      tied = tied-then c.args.self.now.calendar c.advance.new.self.calendar c.args.entry c.args.at p (plan_of c.advance.new.self) c.requires.book.fit c.requires.book.tied c.advance.ensures.calendar c.advance.ensures.plan;
      quiet = c.advance.ensures.quiet;
    }
