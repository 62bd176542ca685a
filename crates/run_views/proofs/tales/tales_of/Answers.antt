use Rattle.std.proofs.Common.{rules}
use Rattle.run_views.specs.Tables.{tale_in}
use Rattle.run_views.proofs.Tellings.{one_heard}
use Rattle.run_views.proofs.tales.tales_of.Goals as goal

pub loop-event-preserved : goal.loop-event-preserved
loop-event-preserved c = λ job.
    one_heard job c.args.events.now c.loop-event.event-index _ (tale_in c.loop-event.tales job) (tale_in c.in_ok-tales.tales job)
    (search rules) ((c.in_ok-tales.ensures {u = tt}) job) (c.loop-event.invariant job)
