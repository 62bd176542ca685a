use Rattle.std.proofs.Common.{refl, lit≤}
use Rattle.std.specs.Fmt.{digits}
use Rattle.drmaa_types.specs.Moments.{greatest}
use Rattle.drmaa_model.specs.Load.{first_from}
use Rattle.model_rows.proofs.jobs.sessions_come_and_go.Goals as goal

pub returns : goal.returns
unfolding first_from greatest digits
returns c = (record { answered = refl; within = lit≤ tt }, (record { answered = refl; within = lit≤ tt }, (record { answered = refl; within = lit≤ tt }, (record { answered = refl; within = lit≤ tt }, (record { answered = refl; within = lit≤ tt }, (record { answered = refl; within = lit≤ tt }, (record { answered = refl; within = lit≤ tt }, (record { answered = refl; within = lit≤ tt }, (record { answered = refl; within = lit≤ tt }, tt)))))))))
