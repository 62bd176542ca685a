use Rattle.std.proofs.Common.{refl, lit≤}
use Rattle.std.specs.Fmt.{digits}
use Rattle.drmaa_types.specs.Moments.{greatest}
use Rattle.drmaa_model.specs.Load.{first_from}
use Rattle.model_rows.proofs.jobs.a_job_gets_the_most_slots.Goals as goal

pub returns-clause-most : goal.returns-clause-most
unfolding first_from greatest digits
returns-clause-most c = (record { answered = refl; within = lit≤ tt }, (record { answered = refl; within = lit≤ tt }, (record { answered = refl; within = lit≤ tt }, tt)))

pub returns-clause-refused : goal.returns-clause-refused
unfolding first_from greatest digits
returns-clause-refused c = (record { answered = refl; within = lit≤ tt }, (record { answered = refl; within = lit≤ tt }, tt))
