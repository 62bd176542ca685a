use Rattle.recurring_reservations.specs.OccurrenceLaws.{rise}
use Rattle.recurring_reservations.proofs.laws.starts_rise.Goals as goal

pub returns : goal.returns
returns c = rise
