use Rattle.recurring_reservations.specs.DateLaws.{reached-month, reached-day, reached-last}
use Rattle.recurring_reservations.proofs.laws.months_keep_the_day_or_take_the_last.Goals as goal

pub returns-clause-month : goal.returns-clause-month
returns-clause-month c = reached-month

pub returns-clause-day : goal.returns-clause-day
returns-clause-day c = reached-day

pub returns-clause-last : goal.returns-clause-last
returns-clause-last c = reached-last
