use Rattle.std.proofs.Common.{◌++◌, ◌≡◌, refl, lit≤, sym, subst}
use Rattle.std.specs.Fmt.{digits}
use Rattle.drmaa_types.specs.Moments.{greatest}
use Rattle.drmaa_model.specs.declared.calls.Call.TheVariants as call
use Rattle.drmaa_model.specs.Effects.{nothing}
use Rattle.drmaa_model.specs.Load.{first_from}
use Rattle.drmaa_model.specs.Steps.{answer}
use Rattle.drmaa_model.specs.World.{World, opening_world}
use Rattle.model_rows.specs.Machines.{node}
use Rattle.model_rows.specs.Reservations.{in_the_way, out_of_the_way}
use Rattle.model_rows.proofs.ReservationWorlds.{blocking, passing}
use Rattle.model_rows.proofs.Walks.{IsWalk, walk-legal, walk-append, walk-ends, last}
use Rattle.model_rows.proofs.reservations.a_job_waits_in_its_reservation.Goals as goal

walk-in_the_way : IsWalk (opening_world node) in_the_way blocking
unfolding first_from greatest digits
walk-in_the_way = (record { answered = refl; within = lit≤ tt }, (record { answered = refl; within = lit≤ tt }, (record { answered = refl; within = lit≤ tt }, (record { answered = refl; within = lit≤ tt }, (record { answered = refl; within = lit≤ tt }, (record { answered = refl; within = lit≤ tt }, (record { answered = refl; within = lit≤ tt }, (record { answered = refl; within = lit≤ tt }, (record { answered = refl; within = lit≤ tt }, tt)))))))))

walk-out_of_the_way : IsWalk (last (opening_world node) blocking) out_of_the_way passing
unfolding first_from greatest digits
walk-out_of_the_way = (record { answered = refl; within = lit≤ tt }, (record { answered = refl; within = lit≤ tt }, tt))

look-waits : answer (last (opening_world node) blocking) 3 call.TakeLaunch ≡ nothing
unfolding first_from greatest digits
look-waits = refl

pub returns-clause-legal : goal.returns-clause-legal
returns-clause-legal c = walk-legal (opening_world node) (in_the_way ++ out_of_the_way) (blocking ++ passing) (walk-append (opening_world node) in_the_way blocking out_of_the_way passing walk-in_the_way walk-out_of_the_way)

pub returns-clause-waits : goal.returns-clause-waits
returns-clause-waits c = subst (λ (w : World). answer w 3 call.TakeLaunch ≡ nothing) (sym (walk-ends (opening_world node) in_the_way blocking walk-in_the_way)) look-waits
