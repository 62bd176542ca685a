use Rattle.journal_text.specs.Journals.{byte_limit}
use Rattle.journal_text.specs.JournalLaws.{text_is, text_for, if_ok}
use Rattle.journal_text.proofs.reading.read_journal.Goals as goal

pub returns-clause-writable : goal.returns-clause-writable
returns-clause-writable c = if_ok _ _ c.read_text.result (λ j t. t.spelled.writable) c.read_text.ensures.found

pub returns-clause-found : goal.returns-clause-found
returns-clause-found c = if_ok _ _ c.read_text.result (λ j t. text_is 268_435_456 c.args.bytes.now j t) c.read_text.ensures.found

pub returns-clause-within : goal.returns-clause-within
unfolding byte_limit
returns-clause-within c = if_ok _ _ c.read_text.result (λ j t. t.within) c.read_text.ensures.found

pub returns-clause-only : goal.returns-clause-only
unfolding byte_limit
returns-clause-only c = λ j w e l. c.read_text.ensures.only j (text_for 268_435_456 c.args.bytes.now j w e l)

pub returns-clause-line : goal.returns-clause-line
unfolding byte_limit
returns-clause-line c = λ n e. c.read_text.ensures.line n e
