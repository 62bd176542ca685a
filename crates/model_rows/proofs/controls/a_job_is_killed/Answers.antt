use Rattle.std.proofs.Common.{◌++◌, ◌≡◌, refl, lit≤, sym, subst}
use Rattle.std.specs.Fmt.{digits}
use Rattle.drmaa_types.specs.Moments.{greatest}
use Rattle.drmaa_model.specs.declared.calls.Call.TheVariants as call
use Rattle.drmaa_model.specs.Effects.{nothing}
use Rattle.drmaa_model.specs.Load.{first_from}
use Rattle.drmaa_model.specs.Steps.{answer}
use Rattle.drmaa_model.specs.World.{World, opening_world}
use Rattle.model_rows.specs.Controls.{asked_to_end, killed}
use Rattle.model_rows.specs.Machines.{node}
use Rattle.model_rows.proofs.ControlWorlds.{from_signal, to_signal}
use Rattle.model_rows.proofs.Walks.{IsWalk, walk-legal, walk-append, walk-ends, last}
use Rattle.model_rows.proofs.controls.a_job_is_killed.Goals as goal

walk-asked_to_end : IsWalk (opening_world node) asked_to_end to_signal
unfolding first_from greatest digits
walk-asked_to_end = (record { answered = refl; within = lit≤ tt }, (record { answered = refl; within = lit≤ tt }, (record { answered = refl; within = lit≤ tt }, (record { answered = refl; within = lit≤ tt }, (record { answered = refl; within = lit≤ tt }, (record { answered = refl; within = lit≤ tt }, (record { answered = refl; within = lit≤ tt }, (record { answered = refl; within = lit≤ tt }, (record { answered = refl; within = lit≤ tt }, (record { answered = refl; within = lit≤ tt }, (record { answered = refl; within = lit≤ tt }, tt)))))))))))

walk-killed : IsWalk (last (opening_world node) to_signal) killed from_signal
unfolding first_from greatest digits
walk-killed = (record { answered = refl; within = lit≤ tt }, (record { answered = refl; within = lit≤ tt }, (record { answered = refl; within = lit≤ tt }, tt)))

look-taken : answer (last (opening_world node) to_signal) 0 call.TakeSignal ≡ nothing
unfolding first_from greatest digits
look-taken = refl

pub returns-clause-legal : goal.returns-clause-legal
returns-clause-legal c = walk-legal (opening_world node) (asked_to_end ++ killed) (to_signal ++ from_signal) (walk-append (opening_world node) asked_to_end to_signal killed from_signal walk-asked_to_end walk-killed)

pub returns-clause-taken : goal.returns-clause-taken
returns-clause-taken c = subst (λ (w : World). answer w 0 call.TakeSignal ≡ nothing) (sym (walk-ends (opening_world node) asked_to_end to_signal walk-asked_to_end)) look-taken
