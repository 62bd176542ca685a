use Rattle.std.proofs.Common.{◌++◌, refl, lit≤}
use Rattle.std.specs.Fmt.{digits}
use Rattle.drmaa_types.specs.Moments.{greatest}
use Rattle.drmaa_model.specs.Load.{first_from}
use Rattle.drmaa_model.specs.World.{opening_world}
use Rattle.model_rows.specs.Controls.{queued_again}
use Rattle.model_rows.specs.Machines.{node}
use Rattle.model_rows.proofs.ControlWorlds.{rerun, rerun_again}
use Rattle.model_rows.proofs.Walks.{IsWalk, walk-legal}
use Rattle.model_rows.proofs.controls.a_job_is_queued_again.Goals as goal

walk-queued_again : IsWalk (opening_world node) queued_again (rerun ++ rerun_again)
unfolding first_from greatest digits
walk-queued_again = (record { answered = refl; within = lit≤ tt }, (record { answered = refl; within = lit≤ tt }, (record { answered = refl; within = lit≤ tt }, (record { answered = refl; within = lit≤ tt }, (record { answered = refl; within = lit≤ tt }, (record { answered = refl; within = lit≤ tt }, (record { answered = refl; within = lit≤ tt }, (record { answered = refl; within = lit≤ tt }, (record { answered = refl; within = lit≤ tt }, (record { answered = refl; within = lit≤ tt }, (record { answered = refl; within = lit≤ tt }, (record { answered = refl; within = lit≤ tt }, tt))))))))))))

pub returns : goal.returns
returns c = walk-legal (opening_world node) queued_again (rerun ++ rerun_again) walk-queued_again
