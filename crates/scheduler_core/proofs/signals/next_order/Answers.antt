use Rattle.std.proofs.Common.{◌∙◌}
use Rattle.plan_book.specs.Book.{plan_of}
use Rattle.scheduler_core.proofs.SignalLaws.{next-asked, next-killed}
use Rattle.scheduler_core.proofs.signals.next_order.Goals as goal

pub returns-in-Some : goal.returns-in-Some
returns-in-Some c = next-asked c.args.at (plan_of c.args.book.now) c.in-Some.order (c.in-Some.ensures {u = tt})

pub returns-in-None : goal.returns-in-None
returns-in-None c = c.kill_due.ensures ∙ next-killed c.args.at (plan_of c.args.book.now) c.requires.book.fit (c.in-None.ensures {u = tt})
