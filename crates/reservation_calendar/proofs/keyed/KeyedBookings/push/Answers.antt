use Rattle.std.proofs.Common.{◌≡◌, false, Result, Ok, Err, sym, ap, ◌∙◌, arith}
use Rattle.std.specs.Result.{OnOk, is_err}
use Rattle.std.specs.BTreeMap as tree
use Rattle.reservation_calendar.specs.Schedules.{is_booked}
use Rattle.reservation_calendar.specs.Keys.{key_order}
use Rattle.reservation_calendar.proofs.Numbering.{pushed_keyed}
use Rattle.reservation_calendar.proofs.keyed.KeyedBookings.push.Goals as goal

on_ok : {T E : Type 0} (P : Type 0) (r : Result T E) → is_err r ≡ false → OnOk r P → P
on_ok P (Ok x) ok h = h
on_ok P (Err e) ok h = cc

pub invariant_of-self-2 : goal.invariant_of-self-2
invariant_of-self-2 c =
    let bs = c.self.inside.bookings.items in
    let fresh : is_booked bs c.args.key ≡ false = ap (λ l. is_booked l c.args.key) c.self.view_is ∙ c.requires.fresh in
    let updates = on_ok _ c.insert.result (sym c.is_err-3.ensures.value ∙ c.if-is_err-3.false) c.insert.ensures.updates in
    rw (c.put.ensures.items, c.put-2.ensures.items, c.reserve.ensures.items, c.reserve-2.ensures.items)
    (pushed_keyed bs c.self.inside.numbers.items c.self.inside.next (tree.get key_order c.self.inside.by_key) _ (record { key = c.args.key; slots = c.args.slots; from = c.args.from; until = c.args.until }) c.self.invariant (omega arith) fresh updates.0)
