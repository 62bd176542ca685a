use Rattle.std.proofs.Common.{filter, sym, ◌∙◌}
use Rattle.drmaa_model.specs.NextLaunchLaws.{ready-parts}
use Rattle.drmaa_model.specs.Time.{lasts}
use Rattle.plan_book.specs.Book.{plan_of}
use Rattle.scheduler_core.specs.Launches.{seen, seen_row}
use Rattle.scheduler_core.proofs.QueuedLaws.{queued-before}
use Rattle.scheduler_core.proofs.ready.best_with.Goals as goal

pub returns-then-not-is_queued-clause-may : goal.returns-then-not-is_queued-clause-may
returns-then-not-is_queued-clause-may c = λ ready. (
    let p = plan_of c.args.book.now in
    let m = c.args.moment in
    let at = seen_row m p c.args.row.now in
    let was = queued-before m (filter (lasts m) p.reservations) c.args.row.now (ready-parts (seen m p) at.wants.min at ready).queued in
    let not = sym c.is_queued.ensures ∙ c.if-not-is_queued.true in
    absurd (cc))
