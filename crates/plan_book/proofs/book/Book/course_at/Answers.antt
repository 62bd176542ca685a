use Rattle.std.proofs.Common.{ℕ, filter, ◌∙◌, ap}
use Rattle.drmaa_model.specs.Time.{lasts}
use Rattle.drmaa_model.specs.TimeLaws.{timed}
use Rattle.plan_book.proofs.book.Book.course_at.Goals as goal

pub returns : goal.returns
returns c =
    c.course_at.ensures
    ∙ ap (λ (m : ℕ). (timed m (filter (lasts m) c.args.self.now.reservations.items) c.args.row.now).course) c.moment_at.ensures
