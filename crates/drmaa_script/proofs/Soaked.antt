-- How a soak ends.
use Rattle.std.proofs.Common.{ℕ, List, Option}
use Rattle.command_words.specs.declared.commands.SoakWords.{SoakWords}
use Rattle.journal_commands.specs.declared.status.Status.{Status}
use Rattle.journal_commands.specs.declared.status.Status.TheVariants.{Done, WriteFault, Memory}
use Rattle.drmaa_script.specs.Endings.{IsOfSoak}
use Rattle.drmaa_script.specs.Soaking.{SoakEnds}

-- what it can come to
pub soak_possible : (w : SoakWords) (old new : Option (List ℕ)) (status : Status) → SoakEnds w old new status → IsOfSoak status
soak_possible w old new Done ends = tt
soak_possible w old new WriteFault ends = tt
soak_possible w old new Memory ends = tt
soak_possible w old new _ ends = ends
