use Rattle.std.proofs.Common.{refl, lit≤}
use Rattle.std.specs.Fmt.{digits}
use Rattle.drmaa_types.specs.Moments.{greatest}
use Rattle.drmaa_model.specs.Load.{first_from}
use Rattle.drmaa_model.specs.World.{opening_world}
use Rattle.model_rows.specs.Jobs.{by_priority, one_slot}
use Rattle.model_rows.proofs.JobWorlds.{prior}
use Rattle.model_rows.proofs.Walks.{IsWalk, walk-legal}
use Rattle.model_rows.proofs.jobs.a_priority_comes_before_a_number.Goals as goal

walk-by_priority : IsWalk (opening_world one_slot) by_priority prior
unfolding first_from greatest digits
walk-by_priority = (record { answered = refl; within = lit≤ tt }, (record { answered = refl; within = lit≤ tt }, (record { answered = refl; within = lit≤ tt }, (record { answered = refl; within = lit≤ tt }, tt))))

pub returns : goal.returns
returns c = walk-legal (opening_world one_slot) by_priority prior walk-by_priority
