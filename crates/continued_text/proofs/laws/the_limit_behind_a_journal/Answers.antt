use Rattle.continued_text.specs.LimitLaws.{limit_behind_journal}
use Rattle.continued_text.proofs.laws.the_limit_behind_a_journal.Goals as goal

pub returns : goal.returns
returns c = limit_behind_journal
