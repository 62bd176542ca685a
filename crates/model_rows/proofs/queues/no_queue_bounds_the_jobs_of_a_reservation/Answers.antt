use Rattle.std.proofs.Common.{refl, lit≤}
use Rattle.std.specs.Fmt.{digits}
use Rattle.drmaa_types.specs.Moments.{greatest}
use Rattle.drmaa_types.specs.Queues.{queue_at}
use Rattle.drmaa_model.specs.Load.{first_from}
use Rattle.drmaa_model.specs.World.{opening_world}
use Rattle.model_rows.specs.Queues.{queued_node, unbound}
use Rattle.model_rows.proofs.QueueWorlds.{free}
use Rattle.model_rows.proofs.Walks.{IsWalk, walk-legal}
use Rattle.model_rows.proofs.queues.no_queue_bounds_the_jobs_of_a_reservation.Goals as goal

walk-unbound : IsWalk (opening_world queued_node) unbound free
unfolding first_from greatest digits queue_at
walk-unbound = (record { answered = refl; within = lit≤ tt }, (record { answered = refl; within = lit≤ tt }, (record { answered = refl; within = lit≤ tt }, (record { answered = refl; within = lit≤ tt }, (record { answered = refl; within = lit≤ tt }, (record { answered = refl; within = lit≤ tt }, (record { answered = refl; within = lit≤ tt }, (record { answered = refl; within = lit≤ tt }, tt))))))))

pub returns : goal.returns
returns c = walk-legal (opening_world queued_node) unbound free walk-unbound
