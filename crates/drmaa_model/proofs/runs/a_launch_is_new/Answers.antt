use Rattle.drmaa_model.specs.LegalRunLaws.{launch-is-new}
use Rattle.drmaa_model.proofs.runs.a_launch_is_new.Goals as goal

pub returns : goal.returns
returns c = launch-is-new
