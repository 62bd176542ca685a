use Rattle.std.proofs.Common.{◌++◌, ◌≡◌, refl, lit≤, sym, subst}
use Rattle.std.specs.Fmt.{digits}
use Rattle.drmaa_types.specs.Moments.{greatest}
use Rattle.drmaa_model.specs.declared.calls.Call.TheVariants as call
use Rattle.drmaa_model.specs.Effects.{nothing}
use Rattle.drmaa_model.specs.Load.{first_from}
use Rattle.drmaa_model.specs.Steps.{answer}
use Rattle.drmaa_model.specs.World.{World, opening_world}
use Rattle.model_rows.specs.Arrays.{then_the_third, two_at_once}
use Rattle.model_rows.specs.Machines.{node}
use Rattle.model_rows.proofs.ArrayWorlds.{bound, third}
use Rattle.model_rows.proofs.Walks.{IsWalk, walk-legal, walk-append, walk-ends, last}
use Rattle.model_rows.proofs.arrays.an_array_runs_within_its_bound.Goals as goal

walk-two_at_once : IsWalk (opening_world node) two_at_once bound
unfolding first_from greatest digits
walk-two_at_once = (record { answered = refl; within = lit≤ tt }, (record { answered = refl; within = lit≤ tt }, (record { answered = refl; within = lit≤ tt }, (record { answered = refl; within = lit≤ tt }, tt))))

walk-then_the_third : IsWalk (last (opening_world node) bound) then_the_third third
unfolding first_from greatest digits
walk-then_the_third = (record { answered = refl; within = lit≤ tt }, (record { answered = refl; within = lit≤ tt }, (record { answered = refl; within = lit≤ tt }, (record { answered = refl; within = lit≤ tt }, tt))))

look-waits : answer (last (opening_world node) bound) 0 call.TakeLaunch ≡ nothing
unfolding first_from greatest digits
look-waits = refl

pub returns-clause-legal : goal.returns-clause-legal
returns-clause-legal c = walk-legal (opening_world node) (two_at_once ++ then_the_third) (bound ++ third) (walk-append (opening_world node) two_at_once bound then_the_third third walk-two_at_once walk-then_the_third)

pub returns-clause-waits : goal.returns-clause-waits
returns-clause-waits c = subst (λ (w : World). answer w 0 call.TakeLaunch ≡ nothing) (sym (walk-ends (opening_world node) two_at_once bound walk-two_at_once)) look-waits
