use Rattle.std.proofs.Common.{◌≡◌, refl, ap, ◌∙◌}
use Rattle.drmaa_model.specs.declared.courses.Course.{Course}
use Rattle.drmaa_model.specs.declared.rows.Row.{Row}
use Rattle.drmaa_model.specs.ControlLaws.{control-cases}
use Rattle.plan_book.proofs.sweeps.control_row.Goals as goal

pub returns : goal.returns
returns c =
    ap (λ (course : Course). let r : Row = record c.args.row.now { course = course } in r) c.controlled_course-row.ensures
    ∙ control-cases (λ (p q : Row). (let r : Row = record p { course = q.course } in r) ≡ q) c.args.moment c.args.target.now c.args.what c.args.row.now refl (λ state e. refl)
