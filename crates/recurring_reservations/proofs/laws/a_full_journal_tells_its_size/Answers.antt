use Rattle.recurring_reservations.proofs.DenialLaws.{full-size, short-memory}
use Rattle.recurring_reservations.proofs.laws.a_full_journal_tells_its_size.Goals as goal

pub returns-clause-size : goal.returns-clause-size
returns-clause-size c = full-size

pub returns-clause-memory : goal.returns-clause-memory
returns-clause-memory c = short-memory
