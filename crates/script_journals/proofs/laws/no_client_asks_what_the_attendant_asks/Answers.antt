use Rattle.script_journals.specs.ClientLaws.{block-clients, part-clients}
use Rattle.script_journals.proofs.laws.no_client_asks_what_the_attendant_asks.Goals as goal

pub returns-clause-whole : goal.returns-clause-whole
returns-clause-whole c = block-clients

pub returns-clause-part : goal.returns-clause-part
returns-clause-part c = part-clients
