use Rattle.std.proofs.Common.{◌∙◌, ap, ◌||◌, List}
use Rattle.std.specs.List.{list_any}
use Rattle.drmaa_model.specs.declared.reservations.Accepted.{Accepted}
use Rattle.drmaa_model.specs.declared.rows.Row.{Row}
use Rattle.drmaa_model.specs.Events.{is_row_event, bounds_at, first_after, next_event}
use Rattle.plan_book.specs.Blocks.{rows_in}
use Rattle.plan_book.specs.Book.{plan_of}
use Rattle.scheduler_core.specs.View.{View}
use Rattle.scheduler_core.proofs.AfterLaws.{joined}
use Rattle.scheduler_core.proofs.OpenLaws.{open-events}
use Rattle.scheduler_core.proofs.cores.Core.next_event.Goals as goal

pub returns : goal.returns
returns c =
    let rows : List Row = (plan_of c.self.inside.book).rows in
    let books : List Accepted = c.reservations.result.now.items in
    joined c.args.after (λ x. list_any (is_row_event x) rows) (λ x. list_any (bounds_at x) books) c.next_block_event.result c.next_bound.result c.earlier.result
    c.earlier.ensures (c.next_block_event.ensures ∙ open-events c.args.after rows (rows_in c.open_blocks.result.now) c.open_blocks.ensures) c.next_bound.ensures
    ∙ ap (λ (rs : List Accepted). first_after c.args.after (λ x. list_any (is_row_event x) rows || list_any (bounds_at x) rs)) c.reservations.ensures
    ∙ ap (λ (v : View). next_event v.plan c.args.after) c.self.view_is
