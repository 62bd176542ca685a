use Rattle.drmaa_model.specs.SettledLaws.{settled-quiet, settled-before}
use Rattle.drmaa_model.proofs.runs.a_settled_plan_is_quiet.Goals as goal

pub returns-clause-now : goal.returns-clause-now
returns-clause-now c = settled-quiet

pub returns-clause-before : goal.returns-clause-before
returns-clause-before c = settled-before
