use Rattle.soak_laws.specs.PlayLaws.{soak_is_whole}
use Rattle.soak_laws.proofs.laws.no_soak_fills_the_journal.Goals as goal

pub returns : goal.returns
returns c = soak_is_whole
