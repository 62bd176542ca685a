use Rattle.std.proofs.Common.{refl, lit≤}
use Rattle.std.specs.Fmt.{digits}
use Rattle.drmaa_types.specs.Moments.{greatest}
use Rattle.drmaa_model.specs.Load.{first_from}
use Rattle.drmaa_model.specs.World.{opening_world}
use Rattle.model_rows.specs.Arrays.{whole_array}
use Rattle.model_rows.specs.Machines.{node}
use Rattle.model_rows.proofs.ArrayWorlds.{wholly}
use Rattle.model_rows.proofs.Walks.{IsWalk, walk-legal}
use Rattle.model_rows.proofs.arrays.an_array_is_controlled_as_a_whole.Goals as goal

walk-whole_array : IsWalk (opening_world node) whole_array wholly
unfolding first_from greatest digits
walk-whole_array = (record { answered = refl; within = lit≤ tt }, (record { answered = refl; within = lit≤ tt }, (record { answered = refl; within = lit≤ tt }, (record { answered = refl; within = lit≤ tt }, (record { answered = refl; within = lit≤ tt }, (record { answered = refl; within = lit≤ tt }, (record { answered = refl; within = lit≤ tt }, (record { answered = refl; within = lit≤ tt }, tt))))))))

pub returns : goal.returns
returns c = walk-legal (opening_world node) whole_array wholly walk-whole_array
