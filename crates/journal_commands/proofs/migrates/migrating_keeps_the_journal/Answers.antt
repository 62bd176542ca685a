use Rattle.journal_commands.proofs.Migrated.{same_written, same_read, legal_written, legal_read, same_again, itself_again}
use Rattle.journal_commands.proofs.migrates.migrating_keeps_the_journal.Goals as goal

pub returns-clause-same : goal.returns-clause-same
returns-clause-same c = λ bytes text j m. (λ read. same_written bytes text j m read, λ written. same_read bytes text j m written)

pub returns-clause-legal : goal.returns-clause-legal
returns-clause-legal c = λ bytes text m. (λ l. legal_written bytes text m l, λ l. legal_read bytes text m l)

pub returns-clause-again : goal.returns-clause-again
returns-clause-again c = λ bytes text again m few. (λ n. same_again bytes text again m n, λ e. itself_again bytes text again m few e)
