use Rattle.std.proofs.Common.{◌++◌, ◌≡◌, refl, lit≤, sym, subst}
use Rattle.std.specs.Fmt.{digits}
use Rattle.drmaa_types.specs.Moments.{greatest}
use Rattle.drmaa_types.specs.Queues.{queue_at}
use Rattle.drmaa_model.specs.declared.calls.Call.TheVariants as call
use Rattle.drmaa_model.specs.Effects.{nothing}
use Rattle.drmaa_model.specs.Load.{first_from}
use Rattle.drmaa_model.specs.Steps.{answer}
use Rattle.drmaa_model.specs.World.{World, opening_world}
use Rattle.model_rows.specs.Queues.{queued_node, up_to_limits, then_the_waiting}
use Rattle.model_rows.proofs.QueueWorlds.{limited, waiting}
use Rattle.model_rows.proofs.Walks.{IsWalk, walk-legal, walk-append, walk-ends, last}
use Rattle.model_rows.proofs.queues.a_queue_bounds_its_jobs.Goals as goal

walk-up_to_limits : IsWalk (opening_world queued_node) up_to_limits limited
unfolding first_from greatest digits queue_at
walk-up_to_limits = (record { answered = refl; within = lit≤ tt }, (record { answered = refl; within = lit≤ tt }, (record { answered = refl; within = lit≤ tt }, (record { answered = refl; within = lit≤ tt }, (record { answered = refl; within = lit≤ tt }, (record { answered = refl; within = lit≤ tt }, tt))))))

walk-then_the_waiting : IsWalk (last (opening_world queued_node) limited) then_the_waiting waiting
unfolding first_from greatest digits queue_at
walk-then_the_waiting = (record { answered = refl; within = lit≤ tt }, (record { answered = refl; within = lit≤ tt }, (record { answered = refl; within = lit≤ tt }, (record { answered = refl; within = lit≤ tt }, tt))))

look-waits : answer (last (opening_world queued_node) limited) 0 call.TakeLaunch ≡ nothing
unfolding first_from greatest digits queue_at
look-waits = refl

pub returns-clause-legal : goal.returns-clause-legal
returns-clause-legal c = walk-legal (opening_world queued_node) (up_to_limits ++ then_the_waiting) (limited ++ waiting) (walk-append (opening_world queued_node) up_to_limits limited then_the_waiting waiting walk-up_to_limits walk-then_the_waiting)

pub returns-clause-waits : goal.returns-clause-waits
returns-clause-waits c = subst (λ (w : World). answer w 0 call.TakeLaunch ≡ nothing) (sym (walk-ends (opening_world queued_node) up_to_limits limited walk-up_to_limits)) look-waits
