use Rattle.std.proofs.Common.{sym, arith}
use Rattle.drmaa_model.specs.Events.{is_row_event}
use Rattle.scheduler_core.proofs.AfterLaws.{after-none, seen-more}
use Rattle.scheduler_core.proofs.events.next_row_event.Goals as goal

pub loop-row-init : goal.loop-row-init
loop-row-init c = sym (after-none c.args.after)

pub loop-row-preserved : goal.loop-row-preserved
loop-row-preserved c =
    seen-more c.args.after is_row_event c.args.rows.now c.loop-row.row-index c.row-item.result c.loop-row.best c.next_of_row.result c.earlier-best.result
    (omega arith) c.row-item.is c.loop-row.invariant c.next_of_row.ensures c.earlier-best.ensures
