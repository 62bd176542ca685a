use Rattle.std.proofs.Common.{refl, lit≤}
use Rattle.std.specs.Fmt.{digits}
use Rattle.drmaa_types.specs.Moments.{greatest}
use Rattle.drmaa_model.specs.Load.{first_from}
use Rattle.drmaa_model.specs.World.{opening_world}
use Rattle.model_rows.specs.Jobs.{past_deadline, past_limit}
use Rattle.model_rows.specs.Machines.{node}
use Rattle.model_rows.proofs.JobWorlds.{late, limits}
use Rattle.model_rows.proofs.Walks.{IsWalk, walk-legal}
use Rattle.model_rows.proofs.jobs.time_ends_jobs.Goals as goal

walk-past_deadline : IsWalk (opening_world node) past_deadline late
unfolding first_from greatest digits
walk-past_deadline = (record { answered = refl; within = lit≤ tt }, (record { answered = refl; within = lit≤ tt }, (record { answered = refl; within = lit≤ tt }, tt)))

walk-past_limit : IsWalk (opening_world node) past_limit limits
unfolding first_from greatest digits
walk-past_limit = (record { answered = refl; within = lit≤ tt }, (record { answered = refl; within = lit≤ tt }, (record { answered = refl; within = lit≤ tt }, (record { answered = refl; within = lit≤ tt }, (record { answered = refl; within = lit≤ tt }, (record { answered = refl; within = lit≤ tt }, tt))))))

pub returns-clause-deadline : goal.returns-clause-deadline
returns-clause-deadline c = walk-legal (opening_world node) past_deadline late walk-past_deadline

pub returns-clause-limit : goal.returns-clause-limit
returns-clause-limit c = walk-legal (opening_world node) past_limit limits walk-past_limit
