use Rattle.std.proofs.Common.{Some, ◌∙◌, ap}
use Rattle.std.specs.Option.{option_map}
use Rattle.drmaa_model.specs.declared.courses.Course.{Course}
use Rattle.drmaa_model.specs.declared.rows.Row.{Row}
use Rattle.plan_book.specs.Book.{plan_of}
use Rattle.scheduler_core.specs.Targets.{row_then}
use Rattle.scheduler_core.proofs.TargetLaws.{state-then}
use Rattle.scheduler_core.proofs.targets.first_state.Goals as goal

pub returns-in-Some : goal.returns-in-Some
returns-in-Some c =
    let p = plan_of c.args.book.now in
    ap (λ (course : Course). Some course.state) c.course_at.ensures
    ∙ ap (option_map (λ (row : Row). (row_then c.args.at p row).course.state)) (c.in-Some.ensures {u = tt}) ∙ state-then c.args.target.now c.args.at p

pub returns-in-None : goal.returns-in-None
returns-in-None c =
    let p = plan_of c.args.book.now in
    ap (option_map (λ (row : Row). (row_then c.args.at p row).course.state)) (c.in-None.ensures {u = tt}) ∙ state-then c.args.target.now c.args.at p
