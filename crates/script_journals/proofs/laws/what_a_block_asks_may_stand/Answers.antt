use Rattle.script_journals.specs.HistoryLaws.{block-stands, part-stands}
use Rattle.script_journals.proofs.laws.what_a_block_asks_may_stand.Goals as goal

pub returns-clause-whole : goal.returns-clause-whole
returns-clause-whole c = block-stands

pub returns-clause-part : goal.returns-clause-part
returns-clause-part c = part-stands
