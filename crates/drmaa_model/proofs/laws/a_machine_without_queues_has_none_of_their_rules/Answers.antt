use Rattle.std.proofs.Common.{refl}
use Rattle.drmaa_model.specs.QueueLaws.{least-queueless, legal-queueless, slots-queueless}
use Rattle.drmaa_model.proofs.laws.a_machine_without_queues_has_none_of_their_rules.Goals as goal

pub returns-clause-rows : goal.returns-clause-rows
returns-clause-rows c = legal-queueless

pub returns-clause-slots : goal.returns-clause-slots
returns-clause-slots c = slots-queueless

pub returns-clause-least : goal.returns-clause-least
returns-clause-least c = least-queueless

pub returns-clause-named : goal.returns-clause-named
returns-clause-named c = λ t. refl

pub returns-clause-told : goal.returns-clause-told
returns-clause-told c = (refl, refl)
