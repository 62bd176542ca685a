use Rattle.std.proofs.Common.{is_some, ap, ◌∙◌}
use Rattle.reservation_calendar.specs.Schedules.{is_booked}
use Rattle.reservation_calendar.proofs.Numbering.{number_some}
use Rattle.reservation_calendar.proofs.keyed.KeyedBookings.contains.Goals as goal

pub returns : goal.returns
returns c =
    c.contains_key.ensures ∙ (ap is_some (c.self.invariant.keys c.args.key)
    ∙ (number_some c.self.inside.bookings.items c.self.inside.numbers.items c.args.key c.self.invariant.count ∙ ap (λ bs. is_booked bs c.args.key) c.self.view_is))
