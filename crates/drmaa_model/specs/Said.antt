-- What is said to a person where a call made no entry: our profile.
use Rattle.std.specs.Prelude.{ℕ, List, ◌++◌, codes, decimal}
use Rattle.drmaa_model.specs.declared.faults.NoEntry.{NoEntry}
use Rattle.drmaa_model.specs.declared.faults.NoEntry.TheVariants.{OutOfMemory, NotYet, Nothing, Journal}

-- why a call made no entry
abbrev pub fault_text : NoEntry → List ℕ
fault_text OutOfMemory = codes "out of memory"
fault_text NotYet = codes "no listed job has reached the state yet"
fault_text Nothing = codes "there is no job to launch, or no signal to send"
fault_text (Journal size) = codes "the journal would have the size " ++ decimal size
