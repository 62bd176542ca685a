use Rattle.std.proofs.Common.{refl, lit≤}
use Rattle.std.specs.Fmt.{digits}
use Rattle.drmaa_types.specs.Moments.{greatest}
use Rattle.drmaa_model.specs.Load.{first_from}
use Rattle.model_rows.proofs.reservations.a_frame_is_filled_from_its_start.Goals as goal

pub returns-clause-legal : goal.returns-clause-legal
unfolding first_from greatest digits
returns-clause-legal c = (record { answered = refl; within = lit≤ tt }, (record { answered = refl; within = lit≤ tt }, (record { answered = refl; within = lit≤ tt }, (record { answered = refl; within = lit≤ tt }, (record { answered = refl; within = lit≤ tt }, (record { answered = refl; within = lit≤ tt }, (record { answered = refl; within = lit≤ tt }, (record { answered = refl; within = lit≤ tt }, tt))))))))

pub returns-clause-full : goal.returns-clause-full
unfolding first_from greatest digits
returns-clause-full c = (record { answered = refl; within = lit≤ tt }, (record { answered = refl; within = lit≤ tt }, (record { answered = refl; within = lit≤ tt }, tt)))
