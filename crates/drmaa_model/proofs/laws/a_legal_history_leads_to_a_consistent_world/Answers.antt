use Rattle.drmaa_model.specs.StepLaws.{legal-consistent, legal-entries, legal-config}
use Rattle.drmaa_model.proofs.laws.a_legal_history_leads_to_a_consistent_world.Goals as goal

pub returns-clause-consistent : goal.returns-clause-consistent
returns-clause-consistent c = legal-consistent

pub returns-clause-entries : goal.returns-clause-entries
returns-clause-entries c = legal-entries

pub returns-clause-config : goal.returns-clause-config
returns-clause-config c = legal-config
