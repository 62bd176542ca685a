use Rattle.std.proofs.Common.{◌+◌, refl}
use Rattle.reservation_calendar.proofs.Edges.{load_rises}
use Rattle.reservation_calendar.proofs.laws.load_rises_only_at_starts.Goals as goal

pub returns : goal.returns
returns c bookings x none = load_rises bookings x (x + 1) refl none
