use Rattle.std.proofs.Common.{◌++◌, ◌≡◌, refl, lit≤, sym, subst}
use Rattle.std.specs.Fmt.{digits}
use Rattle.drmaa_types.specs.Moments.{greatest}
use Rattle.drmaa_model.specs.Effects.{not_yet}
use Rattle.drmaa_model.specs.Load.{first_from}
use Rattle.drmaa_model.specs.Steps.{answer}
use Rattle.drmaa_model.specs.World.{World, opening_world}
use Rattle.model_rows.specs.Arrays.{two_seconds, timed_out, two_ended}
use Rattle.model_rows.specs.Machines.{node}
use Rattle.model_rows.proofs.ArrayWorlds.{ends, over}
use Rattle.model_rows.proofs.Walks.{IsWalk, walk-legal, walk-append, walk-ends, last}
use Rattle.model_rows.proofs.arrays.a_wait_answers_or_times_out.Goals as goal

walk-two_ended : IsWalk (opening_world node) two_ended ends
unfolding first_from greatest digits
walk-two_ended = (record { answered = refl; within = lit≤ tt }, (record { answered = refl; within = lit≤ tt }, (record { answered = refl; within = lit≤ tt }, (record { answered = refl; within = lit≤ tt }, (record { answered = refl; within = lit≤ tt }, (record { answered = refl; within = lit≤ tt }, (record { answered = refl; within = lit≤ tt }, (record { answered = refl; within = lit≤ tt }, (record { answered = refl; within = lit≤ tt }, (record { answered = refl; within = lit≤ tt }, (record { answered = refl; within = lit≤ tt }, (record { answered = refl; within = lit≤ tt }, tt))))))))))))

walk-timed_out : IsWalk (last (opening_world node) ends) timed_out over
unfolding first_from greatest digits
walk-timed_out = (record { answered = refl; within = lit≤ tt }, tt)

look-waits : answer (last (opening_world node) ends) 0 two_seconds ≡ not_yet
unfolding first_from greatest digits
look-waits = refl

pub returns-clause-legal : goal.returns-clause-legal
returns-clause-legal c = walk-legal (opening_world node) (two_ended ++ timed_out) (ends ++ over) (walk-append (opening_world node) two_ended ends timed_out over walk-two_ended walk-timed_out)

pub returns-clause-waits : goal.returns-clause-waits
returns-clause-waits c = subst (λ (w : World). answer w 0 two_seconds ≡ not_yet) (sym (walk-ends (opening_world node) two_ended ends walk-two_ended)) look-waits
