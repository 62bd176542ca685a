use Rattle.drmaa_model.specs.StepLaws.{step-consistent, step-edges, step-entries, step-config, step-total, step-moment}
use Rattle.drmaa_model.proofs.laws.a_step_keeps_the_world.Goals as goal

pub returns-clause-consistent : goal.returns-clause-consistent
returns-clause-consistent c = step-consistent

pub returns-clause-edges : goal.returns-clause-edges
returns-clause-edges c = step-edges

pub returns-clause-entries : goal.returns-clause-entries
returns-clause-entries c = step-entries

pub returns-clause-config : goal.returns-clause-config
returns-clause-config c = step-config

pub returns-clause-total : goal.returns-clause-total
returns-clause-total c = step-total

pub returns-clause-moment : goal.returns-clause-moment
returns-clause-moment c = step-moment
