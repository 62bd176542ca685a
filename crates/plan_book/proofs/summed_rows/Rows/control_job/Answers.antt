use Rattle.std.proofs.Common.{map, ap, sym, ◌∙◌}
use Rattle.drmaa_model.specs.declared.courses.Course.{Course}
use Rattle.drmaa_model.specs.Rows.{with_course}
use Rattle.plan_book.proofs.MeantLaws.{step-job, step-absent}
use Rattle.plan_book.proofs.summed_rows.Rows.control_job.Goals as goal

pub returns-in-Some-clause-items : goal.returns-in-Some-clause-items
returns-in-Some-clause-items c =
    let rows = c.args.self.now.items in
    c.put_course.ensures.items ∙ ap (λ (course : Course). map (with_course c.args.job course) rows) c.controlled_course-next.ensures
    ∙ step-job c.args.job c.args.moment c.args.what rows c.in-Some.row.now c.requires (sym c.in-Some.ensures)

pub returns-in-None-clause-items : goal.returns-in-None-clause-items
returns-in-None-clause-items c = step-absent c.args.job c.args.moment c.args.what c.args.self.now.items (sym c.in-None.ensures)
