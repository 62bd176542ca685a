use Rattle.std.proofs.Common.{filter, ap, sym, ◌∙◌}
use Rattle.drmaa_model.specs.declared.courses.Course.{Course}
use Rattle.drmaa_model.specs.Controlling.{is_controlled}
use Rattle.drmaa_model.specs.Time.{lasts}
use Rattle.drmaa_model.specs.TimeLaws.{timed-only}
use Rattle.plan_book.proofs.controls.is_controlled_then.Goals as goal

pub returns : goal.returns
returns c =
    let t = c.args.target.now in
    let what = c.args.what in
    let row = c.args.row.now in
    c.is_controlled.ensures
    ∙ ap (λ (course : Course). is_controlled t what (record row { course = course })) c.course_at.ensures
    ∙ sym (ap (is_controlled t what) (timed-only c.args.moment (filter (lasts c.args.moment) c.args.rs.now.items) row))
