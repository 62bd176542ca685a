use Rattle.std.proofs.Common.{sym}
use Rattle.drmaa_model.specs.Time.{advance_plan}
use Rattle.plan_book.specs.Book.{plan_of}
use Rattle.scheduler_core.proofs.SignalLaws.{next-kept}
use Rattle.plan_book.specs.FactLaws.{read-none}
use Rattle.scheduler_core.proofs.signals.next_of.Goals as goal

pub returns-in-None : goal.returns-in-None
returns-in-None c =
    let q = advance_plan 0 c.args.at (plan_of c.args.book.now) in
    absurd (next-kept q c.in-Some.order (sym (c.in-Some.ensures {u = tt})) (read-none c.in-Some.order.job q.rows (c.in-None.ensures {u = tt})))
