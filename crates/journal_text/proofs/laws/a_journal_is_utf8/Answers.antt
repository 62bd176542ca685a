use Rattle.journal_text.specs.JournalLaws.{journal_utf8}
use Rattle.journal_text.proofs.laws.a_journal_is_utf8.Goals as goal

pub returns : goal.returns
returns c = λ a h bytes w t. journal_utf8 a h bytes w t
