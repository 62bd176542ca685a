-- What is said to a person where there is no forecast: our profile.
use Rattle.std.specs.Prelude.{ℕ, List, ◌++◌, codes, decimal}
use Rattle.forecast.specs.declared.predictions.ForecastFault.{ForecastFault}
use Rattle.forecast.specs.declared.predictions.ForecastFault.TheVariants.{OutOfMemory, Journal}

-- why there is no forecast
abbrev pub fault_text : ForecastFault → List ℕ
fault_text OutOfMemory = codes "out of memory"
fault_text (Journal size) = codes "the journal would have the size " ++ decimal size
