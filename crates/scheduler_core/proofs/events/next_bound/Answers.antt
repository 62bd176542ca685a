use Rattle.std.proofs.Common.{sym, arith}
use Rattle.drmaa_model.specs.Events.{bounds_at}
use Rattle.scheduler_core.proofs.AfterLaws.{after-none, seen-more}
use Rattle.scheduler_core.proofs.events.next_bound.Goals as goal

pub loop-reservation-init : goal.loop-reservation-init
loop-reservation-init c = sym (after-none c.args.after)

pub loop-reservation-preserved : goal.loop-reservation-preserved
loop-reservation-preserved c =
    seen-more c.args.after bounds_at c.deref-reservation-items.result.now c.loop-reservation.reservation-index c.reservation-item.result c.loop-reservation.best c.next_of_reservation.result c.earlier-best.result
    (omega arith) c.reservation-item.is c.loop-reservation.invariant c.next_of_reservation.ensures c.earlier-best.ensures
