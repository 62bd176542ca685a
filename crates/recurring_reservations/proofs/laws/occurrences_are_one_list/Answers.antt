use Rattle.recurring_reservations.specs.OccurrenceLaws.{one-list}
use Rattle.recurring_reservations.proofs.laws.occurrences_are_one_list.Goals as goal

pub returns : goal.returns
returns c = one-list
