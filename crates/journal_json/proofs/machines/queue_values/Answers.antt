use Rattle.std.proofs.Common.{arith}
use Rattle.std.proofs.lemmas.Grind.{common_steps}
use Rattle.journal_json.specs.DocumentLaws.{joined_last, joined_none}
use Rattle.journal_json.proofs.machines.queue_values.Goals as goal

pub loop-queue-preserved : goal.loop-queue-preserved
loop-queue-preserved c = grind (arith, common_steps, joined_last)

pub returns : goal.returns
returns c = grind (arith, common_steps, joined_none)
