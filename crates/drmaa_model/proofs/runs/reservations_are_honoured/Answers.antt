use Rattle.drmaa_model.specs.Honoured.{reservations-honoured}
use Rattle.drmaa_model.proofs.runs.reservations_are_honoured.Goals as goal

pub returns : goal.returns
returns c = reservations-honoured
