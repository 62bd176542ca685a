use Rattle.drmaa_model.specs.QueueLaws.{legal-placed}
use Rattle.drmaa_model.proofs.laws.each_job_is_of_a_queue.Goals as goal

pub returns : goal.returns
returns c = legal-placed
