use Rattle.std.proofs.Common.{◌&&◌, ◌||◌, false}
use Rattle.std.specs.Option.{option_map_or}
use Rattle.drmaa_types.specs.States.{is_waiting}
use Rattle.drmaa_model.specs.Events.{is_set_to, is_end_at}
use Rattle.scheduler_core.proofs.AfterLaws.{joined}
use Rattle.scheduler_core.proofs.events.next_of_row.Goals as goal

pub returns : goal.returns
returns c = joined c.args.after
    (λ x. is_waiting c.args.row.now.course.state && (is_set_to x c.args.row.now.wants.start || is_set_to x c.args.row.now.wants.deadline))
    (λ x. option_map_or (is_end_at x) c.args.row.now.course.planned false)
    c.next_wanted.result c.next_end.result c.earlier.result c.earlier.ensures c.next_wanted.ensures c.next_end.ensures
