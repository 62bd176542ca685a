use Rattle.recurring_reservations.specs.OccurrenceLaws.{not-both}
use Rattle.recurring_reservations.proofs.laws.a_refusal_has_no_occurrences.Goals as goal

pub returns : goal.returns
returns c = not-both
