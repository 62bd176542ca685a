use Rattle.std.proofs.Common.{sym, ap, ◌∙◌}
use Rattle.reservation_calendar.specs.Schedules.{schedule}
use Rattle.reservation_calendar.proofs.Keeping.{IsSound-without, without_absent}
use Rattle.reservation_calendar.proofs.Ties.{kept_without, off_level}
use Rattle.reservation_calendar.proofs.calendar.Calendar.cancel.Goals as goal

pub invariant_of-self : goal.invariant_of-self
invariant_of-self c = rw (c.remove.ensures.others ∙ without_absent c.self.inside.bookings c.args.key (sym c.in_default.ensures.found)) c.self.invariant

pub returns-in_default-clause-same : goal.returns-in_default-clause-same
returns-in_default-clause-same c missing =
    let stays = c.remove.ensures.others ∙ without_absent c.self.inside.bookings c.args.key (sym c.in_default.ensures.found) in
    ap (λ bs. schedule bs c.self.inside.total) stays ∙ c.self.view_is

pub returns-in_default-clause-sound : goal.returns-in_default-clause-sound
returns-in_default-clause-sound c = rw (c.remove.ensures.others ∙ without_absent c.self.inside.bookings c.args.key (sym c.in_default.ensures.found)) c.self.invariant.sound

pub take_off-requires-clause-level : goal.take_off-requires-clause-level
take_off-requires-clause-level c = off_level c.self.inside.bookings c.self.inside.timeline.steps c.self.inside.total c.self.invariant c.in-Some.booking c.in-Some.ensures.booking.1

pub invariant_of-self-2 : goal.invariant_of-self-2
invariant_of-self-2 c =
    let bs = c.self.inside.bookings in
    let total = c.self.inside.total in
    let b = c.in-Some.booking in
    rw (c.remove.ensures.others, ← c.in-Some.ensures.booking.0)
    (kept_without bs c.self.inside.timeline.steps c.take_off.new.self.steps total b c.self.invariant c.in-Some.ensures.booking.1 (IsSound-without bs total b.key c.self.invariant.sound) c.take_off.ensures.loads c.take_off.ensures.edges)

pub returns-clause-sound : goal.returns-clause-sound
returns-clause-sound c = rw c.remove.ensures.others (IsSound-without c.self.inside.bookings c.self.inside.total c.args.key c.self.invariant.sound)
