use Rattle.drmaa_model.specs.QueueLaws.{legal-queued}
use Rattle.drmaa_model.proofs.laws.no_queue_is_passed.Goals as goal

pub returns : goal.returns
returns c = legal-queued
