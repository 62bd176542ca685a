use Rattle.drmaa_model.specs.HistoryLaws.{legal-push, replay-step}
use Rattle.drmaa_model.proofs.histories.a_step_goes_on.Goals as goal

pub returns-clause-legal : goal.returns-clause-legal
returns-clause-legal c = legal-push

pub returns-clause-world : goal.returns-clause-world
returns-clause-world c = replay-step
