use Rattle.std.proofs.Common.{refl, lit≤}
use Rattle.std.specs.Fmt.{digits}
use Rattle.drmaa_types.specs.Moments.{greatest}
use Rattle.drmaa_types.specs.Queues.{queue_at}
use Rattle.drmaa_model.specs.Load.{first_from}
use Rattle.model_rows.proofs.queues.a_job_names_a_queue_that_is_there.Goals as goal

pub returns-clause-queues : goal.returns-clause-queues
unfolding first_from greatest digits queue_at
returns-clause-queues c = (record { answered = refl; within = lit≤ tt }, (record { answered = refl; within = lit≤ tt }, (record { answered = refl; within = lit≤ tt }, (record { answered = refl; within = lit≤ tt }, (record { answered = refl; within = lit≤ tt }, tt)))))

pub returns-clause-unsupported : goal.returns-clause-unsupported
unfolding first_from greatest digits queue_at
returns-clause-unsupported c = (record { answered = refl; within = lit≤ tt }, (record { answered = refl; within = lit≤ tt }, tt))
