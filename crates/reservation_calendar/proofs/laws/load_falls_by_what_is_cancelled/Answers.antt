use Rattle.reservation_calendar.proofs.Keeping.{load-cancelled}
use Rattle.reservation_calendar.proofs.laws.load_falls_by_what_is_cancelled.Goals as goal

pub returns : goal.returns
returns c = load-cancelled
