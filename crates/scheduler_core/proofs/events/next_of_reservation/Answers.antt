use Rattle.std.proofs.Common.{◌==◌}
use Rattle.scheduler_core.proofs.AfterLaws.{joined}
use Rattle.scheduler_core.proofs.events.next_of_reservation.Goals as goal

pub returns : goal.returns
returns c = joined c.args.after (λ x. c.args.reservation.now.from == x) (λ x. c.args.reservation.now.until == x) c.if_after.result c.if_after-2.result c.earlier.result c.earlier.ensures c.if_after.ensures c.if_after-2.ensures
