use Rattle.std.proofs.Common.{◌≡◌, ◌++◌, ◌∷◌, [], ap, arith}
use Rattle.reservation_calendar.specs.declared.bookings.Booking.{Booking}
use Rattle.reservation_calendar.specs.Schedules.{schedule, IsSound}
use Rattle.reservation_calendar.specs.Timelines.{edges_at}
use Rattle.reservation_calendar.proofs.Keeping.{IsSound-push}
use Rattle.reservation_calendar.proofs.Ties.{edges-le, kept_push}
use Rattle.reservation_calendar.proofs.calendar.Calendar.book.Goals as goal

pub add-requires-clause-few : goal.add-requires-clause-few
add-requires-clause-few c x =
    let same : edges_at c.reserve.new.self.steps x ≡ edges_at c.self.inside.timeline.steps x = ap (λ steps. edges_at steps x) c.reserve.ensures.steps in
    let few = c.push.ensures.few in
    omega (arith, c.self.invariant.edges x, edges-le c.self.inside.bookings x)

pub invariant_of-self-2 : goal.invariant_of-self-2
invariant_of-self-2 c =
    let bs = c.self.inside.bookings in
    let total = c.self.inside.total in
    let b : Booking = record { key = c.args.key; slots = c.args.slots; from = c.args.from; until = c.args.until } in
    let sound : IsSound (schedule (bs ++ b ∷ []) total) = IsSound-push bs total b c.self.invariant.sound c.requires.lasting (rw (← c.self.view_is) at c.requires.fits) (rw (← c.self.view_is) at c.requires.fresh) in
    rw c.in_default.ensures.ok
    (kept_push bs c.self.inside.timeline.steps c.add.new.self.steps total b c.self.invariant sound (rw c.reserve.ensures.steps at c.add.ensures.loads) (rw c.reserve.ensures.steps at c.add.ensures.edges))

pub returns-clause-sound : goal.returns-clause-sound
returns-clause-sound c =
    let bs = c.self.inside.bookings in
    let total = c.self.inside.total in
    let b : Booking = record { key = c.args.key; slots = c.args.slots; from = c.args.from; until = c.args.until } in
    rw c.in_default.ensures.ok
    (IsSound-push bs total b c.self.invariant.sound c.requires.lasting (rw (← c.self.view_is) at c.requires.fits) (rw (← c.self.view_is) at c.requires.fresh))
