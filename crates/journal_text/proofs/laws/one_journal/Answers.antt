use Rattle.journal_text.specs.JournalLaws.{one_journal}
use Rattle.journal_text.proofs.laws.one_journal.Goals as goal

pub returns : goal.returns
returns c = λ a b g h bytes v w s t. one_journal a b g h bytes v w s t
