use Rattle.reservation_calendar.proofs.Edges.{least_fitting}
use Rattle.reservation_calendar.proofs.laws.least_fitting_start_is_the_first_or_an_end.Goals as goal

pub returns : goal.returns
returns c = least_fitting
