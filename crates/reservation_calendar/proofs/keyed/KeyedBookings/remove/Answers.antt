use Rattle.std.proofs.Common.{◌≡◌, false, is_some, sym, ap, ◌∙◌, arith}
use Rattle.reservation_calendar.specs.declared.bookings.Booking.{Booking}
use Rattle.reservation_calendar.specs.Schedules.{is_booked, without}
use Rattle.reservation_calendar.proofs.Keeping.{without_absent}
use Rattle.reservation_calendar.proofs.Numbering.{number_some, place_is, removed_is_without, removed_keyed}
use Rattle.reservation_calendar.proofs.keyed.KeyedBookings.remove.Goals as goal

pub returns-in_default-clause-found : goal.returns-in_default-clause-found
returns-in_default-clause-found c =
    ap is_some (c.in_default.ensures.value ∙ c.self.invariant.keys c.args.key)
    ∙ (number_some c.self.inside.bookings.items c.self.inside.numbers.items c.args.key c.self.invariant.count ∙ ap (λ bs. is_booked bs c.args.key) c.self.view_is)

pub returns-in_default-clause-others : goal.returns-in_default-clause-others
returns-in_default-clause-others c =
    let bs = c.self.inside.bookings.items in
    let absent : is_booked bs c.args.key ≡ false =
    sym (ap is_some (c.in_default.ensures.value ∙ c.self.invariant.keys c.args.key) ∙ number_some bs c.self.inside.numbers.items c.args.key c.self.invariant.count) in
    sym (without_absent bs c.args.key absent) ∙ ap (without c.args.key) c.self.view_is

pub remove-requires-2 : goal.remove-requires-2
remove-requires-2 c =
    let at = place_is c.self.inside.bookings.items c.self.inside.numbers.items c.args.key c.in-Some.number c.place_of-place.result
    (c.in-Some.ensures.value ∙ c.self.invariant.keys c.args.key) (rw c.deref.ensures.value at c.place_of-place.ensures) c.self.invariant.count in
    let inside = at.inside in
    let count = c.self.invariant.count in
    omega (arith, c.self.inside.numbers.ok.0)

pub invariant_of-self-2 : goal.invariant_of-self-2
invariant_of-self-2 c =
    let bs = c.self.inside.bookings.items in
    let ns = c.self.inside.numbers.items in
    let at = place_is bs ns c.args.key c.in-Some.number c.place_of-place.result
    (c.in-Some.ensures.value ∙ c.self.invariant.keys c.args.key) (rw c.deref.ensures.value at c.place_of-place.ensures) c.self.invariant.count in
    rw (c.remove-3.ensures.items, c.remove-2.ensures.items)
    (removed_keyed bs ns c.self.inside.next _ _ c.args.key c.in-Some.number c.place_of-place.result c.self.invariant at c.in-Some.ensures.updates.0)

pub returns-clause-found : goal.returns-clause-found
returns-clause-found c =
    ap is_some (c.in-Some.ensures.value ∙ c.self.invariant.keys c.args.key)
    ∙ (number_some c.self.inside.bookings.items c.self.inside.numbers.items c.args.key c.self.invariant.count ∙ ap (λ bs. is_booked bs c.args.key) c.self.view_is)

pub returns-clause-booking : goal.returns-clause-booking
returns-clause-booking c =
    let bs = c.self.inside.bookings.items in
    let at = place_is bs c.self.inside.numbers.items c.args.key c.in-Some.number c.place_of-place.result
    (c.in-Some.ensures.value ∙ c.self.invariant.keys c.args.key) (rw c.deref.ensures.value at c.place_of-place.ensures) c.self.invariant.count in
    rw (← c.self.view_is) (
      ap (λ (b : Booking). b.key) c.remove-3.ensures.value ∙ at.its_key c.remove-3.result,
      (c.place_of-place.result, at.inside, sym c.remove-3.ensures.value),
    )

pub returns-clause-others : goal.returns-clause-others
returns-clause-others c =
    let bs = c.self.inside.bookings.items in
    let at = place_is bs c.self.inside.numbers.items c.args.key c.in-Some.number c.place_of-place.result
    (c.in-Some.ensures.value ∙ c.self.invariant.keys c.args.key) (rw c.deref.ensures.value at c.place_of-place.ensures) c.self.invariant.count in
    c.remove-3.ensures.items ∙ (removed_is_without bs c.args.key c.place_of-place.result c.self.invariant.once at.inside at.its_key ∙ ap (without c.args.key) c.self.view_is)
