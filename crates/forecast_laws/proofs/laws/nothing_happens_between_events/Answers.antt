use Rattle.forecast_laws.specs.EventLaws.{done-between}
use Rattle.forecast_laws.proofs.laws.nothing_happens_between_events.Goals as goal

pub returns : goal.returns
returns c = done-between
