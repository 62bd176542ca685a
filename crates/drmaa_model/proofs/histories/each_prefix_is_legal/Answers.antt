use Rattle.drmaa_model.specs.HistoryLaws.{legal-prefix, legal-last}
use Rattle.drmaa_model.proofs.histories.each_prefix_is_legal.Goals as goal

pub returns-clause-legal : goal.returns-clause-legal
returns-clause-legal c = legal-prefix

pub returns-clause-last : goal.returns-clause-last
returns-clause-last c = legal-last
