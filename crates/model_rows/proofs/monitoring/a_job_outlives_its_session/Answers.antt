use Rattle.std.proofs.Common.{refl, lit≤}
use Rattle.std.specs.Fmt.{digits}
use Rattle.drmaa_types.specs.Moments.{greatest}
use Rattle.drmaa_model.specs.Load.{first_from}
use Rattle.drmaa_model.specs.World.{opening_world}
use Rattle.model_rows.specs.Machines.{node}
use Rattle.model_rows.specs.Monitoring.{monitored}
use Rattle.model_rows.proofs.MonitoringWorlds.{watching}
use Rattle.model_rows.proofs.Walks.{IsWalk, walk-legal}
use Rattle.model_rows.proofs.monitoring.a_job_outlives_its_session.Goals as goal

walk-monitored : IsWalk (opening_world node) monitored watching
unfolding first_from greatest digits
walk-monitored = (record { answered = refl; within = lit≤ tt }, (record { answered = refl; within = lit≤ tt }, (record { answered = refl; within = lit≤ tt }, (record { answered = refl; within = lit≤ tt }, (record { answered = refl; within = lit≤ tt }, (record { answered = refl; within = lit≤ tt }, (record { answered = refl; within = lit≤ tt }, (record { answered = refl; within = lit≤ tt }, (record { answered = refl; within = lit≤ tt }, (record { answered = refl; within = lit≤ tt }, (record { answered = refl; within = lit≤ tt }, (record { answered = refl; within = lit≤ tt }, (record { answered = refl; within = lit≤ tt }, tt)))))))))))))

pub returns : goal.returns
returns c = walk-legal (opening_world node) monitored watching walk-monitored
