use Rattle.std.proofs.Common.{not, max, filter, sym, ◌∙◌}
use Rattle.drmaa_model.specs.Courses.{is_unasked}
use Rattle.drmaa_model.specs.Launching.{is_alive}
use Rattle.drmaa_model.specs.Time.{lasts}
use Rattle.plan_book.specs.Book.{plan_of}
use Rattle.scheduler_core.specs.Targets.{row_then}
use Rattle.scheduler_core.proofs.PhaseLaws.{not-alive, and-last}
use Rattle.scheduler_core.proofs.signals.is_killed.Goals as goal

pub returns-then-not-is_alive : goal.returns-then-not-is_alive
returns-then-not-is_alive c =
    let p = plan_of c.args.book.now in
    let m = max p.moment c.args.at in
    let row = c.args.row.now in
    let then = row_then c.args.at p row in
    and-last (is_unasked row.course.kill) (not (is_unasked then.course.kill)) (is_alive then.course.phase)
    (not-alive m (filter (lasts m) p.reservations) row (sym c.is_alive.ensures ∙ c.if-not-is_alive.true))
