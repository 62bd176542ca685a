use Rattle.std.proofs.Common.{◌+◌, refl}
use Rattle.reservation_calendar.proofs.Edges.{load_falls}
use Rattle.reservation_calendar.proofs.laws.load_falls_only_at_ends.Goals as goal

pub returns : goal.returns
returns c bookings x none = load_falls bookings x (x + 1) refl none
