use Rattle.std.proofs.Common.{◌++◌, ◌≡◌, refl, lit≤, sym, subst}
use Rattle.std.specs.Fmt.{digits}
use Rattle.drmaa_types.specs.Moments.{greatest}
use Rattle.drmaa_model.specs.declared.calls.Call.TheVariants as call
use Rattle.drmaa_model.specs.Effects.{nothing}
use Rattle.drmaa_model.specs.Load.{first_from}
use Rattle.drmaa_model.specs.Steps.{answer}
use Rattle.drmaa_model.specs.World.{World, opening_world}
use Rattle.model_rows.specs.Jobs.{first_that_fit, then_the_other}
use Rattle.model_rows.specs.Machines.{node}
use Rattle.model_rows.proofs.JobWorlds.{fitting, other}
use Rattle.model_rows.proofs.Walks.{IsWalk, walk-legal, walk-append, walk-ends, last}
use Rattle.model_rows.proofs.jobs.a_lesser_job_is_launched_first.Goals as goal

walk-first_that_fit : IsWalk (opening_world node) first_that_fit fitting
unfolding first_from greatest digits
walk-first_that_fit = (record { answered = refl; within = lit≤ tt }, (record { answered = refl; within = lit≤ tt }, (record { answered = refl; within = lit≤ tt }, (record { answered = refl; within = lit≤ tt }, (record { answered = refl; within = lit≤ tt }, (record { answered = refl; within = lit≤ tt }, tt))))))

walk-then_the_other : IsWalk (last (opening_world node) fitting) then_the_other other
unfolding first_from greatest digits
walk-then_the_other = (record { answered = refl; within = lit≤ tt }, (record { answered = refl; within = lit≤ tt }, tt))

look-waits : answer (last (opening_world node) fitting) 0 call.TakeLaunch ≡ nothing
unfolding first_from greatest digits
look-waits = refl

pub returns-clause-legal : goal.returns-clause-legal
returns-clause-legal c = walk-legal (opening_world node) (first_that_fit ++ then_the_other) (fitting ++ other) (walk-append (opening_world node) first_that_fit fitting then_the_other other walk-first_that_fit walk-then_the_other)

pub returns-clause-waits : goal.returns-clause-waits
returns-clause-waits c = subst (λ (w : World). answer w 0 call.TakeLaunch ≡ nothing) (sym (walk-ends (opening_world node) first_that_fit fitting walk-first_that_fit)) look-waits
