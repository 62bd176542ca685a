use Rattle.drmaa_model.specs.RestSteps.{legal-rests, legal-still}
use Rattle.drmaa_model.proofs.laws.time_rests_in_a_legal_world.Goals as goal

pub returns-clause-rests : goal.returns-clause-rests
returns-clause-rests c = legal-rests

pub returns-clause-still : goal.returns-clause-still
returns-clause-still c = legal-still
