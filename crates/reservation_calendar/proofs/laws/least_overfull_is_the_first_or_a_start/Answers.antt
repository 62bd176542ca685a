use Rattle.reservation_calendar.proofs.Edges.{least_overfull}
use Rattle.reservation_calendar.proofs.laws.least_overfull_is_the_first_or_a_start.Goals as goal

pub returns : goal.returns
returns c = least_overfull
