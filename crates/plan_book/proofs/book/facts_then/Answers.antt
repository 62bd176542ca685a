use Rattle.std.proofs.Common.{filter, sym, ◌∙◌, ap}
use Rattle.drmaa_model.specs.declared.courses.Course.{Course}
use Rattle.drmaa_model.specs.Time.{lasts}
use Rattle.drmaa_model.specs.TimeLaws.{timed-only}
use Rattle.plan_book.specs.declared.rows.Facts.{Facts}
use Rattle.plan_book.specs.Facts.{facts_of}
use Rattle.plan_book.proofs.book.facts_then.Goals as goal

pub returns : goal.returns
returns c =
    let row = c.args.row.now in
    ap (λ (course : Course). let f : Facts = record { job = row.job; home = row.home; course = course; rerunnable = row.wants.rerunnable } in f) c.course_at.ensures
    ∙ sym (ap facts_of (timed-only c.args.moment (filter (lasts c.args.moment) c.args.rs.now.items) row))
