use Rattle.command_scripts.specs.TakenLaws.{batch_taken}
use Rattle.command_scripts.proofs.laws.each_template_is_taken.Goals as goal

pub returns : goal.returns
returns c = batch_taken
