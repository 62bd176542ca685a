use Rattle.drmaa_model.specs.SizeLaws.{legal-size, legal-length}
use Rattle.drmaa_model.proofs.laws.a_legal_history_keeps_within_the_journal.Goals as goal

pub returns-clause-size : goal.returns-clause-size
returns-clause-size c = legal-size

pub returns-clause-entries : goal.returns-clause-entries
returns-clause-entries c = legal-length
