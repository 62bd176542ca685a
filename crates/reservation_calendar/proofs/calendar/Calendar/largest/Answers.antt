use Rattle.std.proofs.Common.{◌≤◌, rules, refl, sym, arith}
use Rattle.drmaa_types.specs.Moments.{greatest}
use Rattle.reservation_calendar.proofs.Crossing.{start_inside}
use Rattle.reservation_calendar.proofs.Ties.{low_total, room_most}
use Rattle.reservation_calendar.proofs.calendar.Calendar.largest.Goals as goal

pub overflow_sub-room : goal.overflow_sub-room
overflow_sub-room c = c.greatest_in.ensures.least c.self.inside.total (low_total c.self.inside.bookings c.self.inside.timeline.steps c.self.inside.total c.args.from c.args.until c.self.invariant)

pub returns-then-room-min-clause-none : goal.returns-then-room-min-clause-none
returns-then-room-min-clause-none c =
    let moment : c.args.from ≤ greatest = search rules in
    let start = start_inside c.args.from c.args.until (sym c.if-not-is_before.ensures) moment in
    rw (← c.self.view_is) (
      λ _ fits. (let h = room_most c.self.inside.bookings c.self.inside.timeline.steps c.self.inside.total c.args.from c.args.until c.greatest_in.result c.args.min c.self.invariant start c.greatest_in.ensures.least fits in omega arith),
      λ _. refl,
    )

pub returns-else-room-min-clause-greatest : goal.returns-else-room-min-clause-greatest
returns-else-room-min-clause-greatest c m below =
    let moment : c.args.from ≤ greatest = search rules in
    let start = start_inside c.args.from c.args.until (sym c.if-not-is_before.ensures) moment in
    rw (← c.self.view_is)
    (λ fits. (let h = room_most c.self.inside.bookings c.self.inside.timeline.steps c.self.inside.total c.args.from c.args.until c.greatest_in.result m c.self.invariant start c.greatest_in.ensures.least fits in omega arith))
