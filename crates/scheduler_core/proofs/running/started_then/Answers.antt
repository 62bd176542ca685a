use Rattle.std.proofs.Common.{max, filter, sym, ◌∙◌, ap}
use Rattle.drmaa_model.specs.declared.courses.Course.{Course}
use Rattle.drmaa_model.specs.Time.{lasts}
use Rattle.drmaa_model.specs.TimeLaws.{timed-only}
use Rattle.plan_book.specs.Book.{plan_of}
use Rattle.drmaa_model.specs.Events.{started_of}
use Rattle.drmaa_model.specs.declared.rows.Started.{Started}
use Rattle.scheduler_core.proofs.running.started_then.Goals as goal

pub returns : goal.returns
returns c =
    let p = plan_of c.args.book.now in
    let row = c.args.row.now in
    ap (λ b. let s : Started = record { job = row.job; attempt = c.course_at-course.result.attempt; rerunnable = row.wants.rerunnable; asked = b } in s) c.is_asked.ensures
    ∙ ap (λ (k : Course). started_of (record row { course = k })) c.course_at-course.ensures
    ∙ sym (ap started_of (timed-only (max p.moment c.args.at) (filter (lasts (max p.moment c.args.at)) p.reservations) row))
