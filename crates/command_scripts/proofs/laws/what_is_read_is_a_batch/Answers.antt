use Rattle.command_scripts.specs.TextLaws.{read_is_batch}
use Rattle.command_scripts.proofs.laws.what_is_read_is_a_batch.Goals as goal

pub returns : goal.returns
returns c = read_is_batch
