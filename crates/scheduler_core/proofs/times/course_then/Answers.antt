use Rattle.std.proofs.Common.{◌≡◌, ℕ, max, filter, ◌∙◌, ap, arith}
use Rattle.drmaa_model.specs.Time.{lasts}
use Rattle.drmaa_model.specs.TimeLaws.{timed}
use Rattle.plan_book.specs.Book.{plan_of}
use Rattle.scheduler_core.proofs.times.course_then.Goals as goal

pub returns : goal.returns
returns c =
    let p = plan_of c.args.book.now in
    let later : max p.moment c.args.moment ≡ c.args.moment = omega arith in
    c.course_at.ensures ∙ ap (λ (m : ℕ). (timed m (filter (lasts m) p.reservations) c.args.row.now).course) later
