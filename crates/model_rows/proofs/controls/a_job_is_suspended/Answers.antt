use Rattle.std.proofs.Common.{◌++◌, ◌≡◌, refl, lit≤, sym, subst}
use Rattle.std.specs.Fmt.{digits}
use Rattle.drmaa_types.specs.Moments.{greatest}
use Rattle.drmaa_model.specs.declared.calls.Call.TheVariants as call
use Rattle.drmaa_model.specs.Effects.{nothing}
use Rattle.drmaa_model.specs.Load.{first_from}
use Rattle.drmaa_model.specs.Steps.{answer}
use Rattle.drmaa_model.specs.World.{World, opening_world}
use Rattle.model_rows.specs.Controls.{not_suspended, suspended, suspended_ended}
use Rattle.model_rows.specs.Jobs.{no_suspend}
use Rattle.model_rows.specs.Machines.{node}
use Rattle.model_rows.proofs.ControlWorlds.{after_suspension, no_suspension, suspension}
use Rattle.model_rows.proofs.Walks.{IsWalk, walk-legal, walk-append, walk-ends, last}
use Rattle.model_rows.proofs.controls.a_job_is_suspended.Goals as goal

walk-not_suspended : IsWalk (opening_world no_suspend) not_suspended no_suspension
unfolding first_from greatest digits
walk-not_suspended = (record { answered = refl; within = lit≤ tt }, (record { answered = refl; within = lit≤ tt }, (record { answered = refl; within = lit≤ tt }, (record { answered = refl; within = lit≤ tt }, (record { answered = refl; within = lit≤ tt }, (record { answered = refl; within = lit≤ tt }, tt))))))

walk-suspended : IsWalk (opening_world node) suspended suspension
unfolding first_from greatest digits
walk-suspended = (record { answered = refl; within = lit≤ tt }, (record { answered = refl; within = lit≤ tt }, (record { answered = refl; within = lit≤ tt }, (record { answered = refl; within = lit≤ tt }, (record { answered = refl; within = lit≤ tt }, (record { answered = refl; within = lit≤ tt }, (record { answered = refl; within = lit≤ tt }, tt)))))))

walk-suspended_ended : IsWalk (last (opening_world node) suspension) suspended_ended after_suspension
unfolding first_from greatest digits
walk-suspended_ended = (record { answered = refl; within = lit≤ tt }, tt)

look-removed : answer (last (opening_world node) suspension) 0 call.TakeSignal ≡ nothing
unfolding first_from greatest digits
look-removed = refl

pub returns-clause-refused : goal.returns-clause-refused
returns-clause-refused c = walk-legal (opening_world no_suspend) not_suspended no_suspension walk-not_suspended

pub returns-clause-legal : goal.returns-clause-legal
returns-clause-legal c = walk-legal (opening_world node) (suspended ++ suspended_ended) (suspension ++ after_suspension) (walk-append (opening_world node) suspended suspension suspended_ended after_suspension walk-suspended walk-suspended_ended)

pub returns-clause-removed : goal.returns-clause-removed
returns-clause-removed c = subst (λ (w : World). answer w 0 call.TakeSignal ≡ nothing) (sym (walk-ends (opening_world node) suspended suspension walk-suspended)) look-removed
