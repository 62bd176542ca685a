use Rattle.forecast_laws.specs.UniqueLaws.{one-forecast}
use Rattle.forecast_laws.proofs.laws.there_is_one_forecast.Goals as goal

pub returns : goal.returns
returns c = one-forecast
