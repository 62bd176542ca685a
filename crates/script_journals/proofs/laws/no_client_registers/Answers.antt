use Rattle.script_journals.specs.RegisterLaws.{block-none, part-none}
use Rattle.script_journals.proofs.laws.no_client_registers.Goals as goal

pub returns-clause-whole : goal.returns-clause-whole
returns-clause-whole c = block-none

pub returns-clause-part : goal.returns-clause-part
returns-clause-part c = part-none
