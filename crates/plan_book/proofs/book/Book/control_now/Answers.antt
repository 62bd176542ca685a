use Rattle.std.proofs.Common.{List, ◌++◌, map, length, ap, sym, ◌∙◌, subst, arith}
use Rattle.std.specs.List.{AllByRecursion}
use Rattle.drmaa_types.specs.declared.changes.Change.{Change}
use Rattle.drmaa_model.specs.declared.courses.Order.{Order}
use Rattle.drmaa_model.specs.declared.rows.Row.{Row}
use Rattle.drmaa_model.specs.Controlling.{control, control_step}
use Rattle.drmaa_model.specs.Plan.{Plan}
use Rattle.plan_book.specs.Book.{plan_of, owed, owed_kills}
use Rattle.plan_book.specs.Meant.{rows_of}
use Rattle.plan_book.specs.Quiet.{IsAlarmed}
use Rattle.plan_book.proofs.AlarmLaws.{alarmed-controlled}
use Rattle.plan_book.proofs.MeantLaws.{noted-part, asked-part}
use Rattle.plan_book.proofs.SweepLaws.{control-owed, control-owed_kills}
use Rattle.plan_book.proofs.book.Book.control_now.Goals as goal

pub note_among-requires : goal.note_among-requires
note_among-requires c =
    let s = c.args.self.now in
    let sum = control-owed c.args.entry s.moment c.args.target.now c.args.what s.rows.items in
    let notes = ap length (noted-part c.args.entry s.moment c.args.target.now c.args.what s.rows.items (rows_of c.meant_rows.result) c.meant_rows.ensures) in
    omega (arith, sum, notes, c.requires.room.changes, c.requires.changes)

pub order_among-requires : goal.order_among-requires
order_among-requires c =
    let s = c.args.self.now in
    let sum = control-owed_kills s.moment c.args.target.now c.args.what s.rows.items in
    let orders = ap length (asked-part c.args.target.now c.args.what s.rows.items (rows_of c.meant_rows-2.result) c.meant_rows-2.ensures) in
    omega (arith, sum, orders, c.requires.room.orders, c.requires.orders)

pub returns-clause-plan : goal.returns-clause-plan
returns-clause-plan c =
    let s = c.args.self.now in
    let p = plan_of s in
    let f = control_step s.moment c.args.target.now c.args.what in
    ap (λ (rs : List Row). let q : Plan = record p { rows = rs; orders = c.order_among.new.orders.items; changes = c.note_among.new.changes.items } in q) c.control_rows.ensures.items
    ∙ ap (λ (os : List Order). let q : Plan = record p { rows = map f p.rows; orders = os; changes = c.note_among.new.changes.items } in q) (c.order_among.ensures.items ∙ ap (λ (os : List Order). s.orders.items ++ os) (asked-part c.args.target.now c.args.what s.rows.items (rows_of c.meant_rows-2.result) c.meant_rows-2.ensures))
    ∙ ap (λ (cs : List Change). let q : Plan = record ((control c.args.target.now c.args.what).effect c.args.entry p) { changes = cs } in q)
    (c.note_among.ensures.items ∙ ap (λ (cs : List Change). s.changes.items ++ cs) (noted-part c.args.entry s.moment c.args.target.now c.args.what s.rows.items (rows_of c.meant_rows.result) c.meant_rows.ensures))

pub returns-clause-room : goal.returns-clause-room
returns-clause-room c =
    let s = c.args.self.now in
    let sum = control-owed c.args.entry s.moment c.args.target.now c.args.what s.rows.items in
    let asks = control-owed_kills s.moment c.args.target.now c.args.what s.rows.items in
    let notes = ap length (noted-part c.args.entry s.moment c.args.target.now c.args.what s.rows.items (rows_of c.meant_rows.result) c.meant_rows.ensures) in
    let orders = ap length (asked-part c.args.target.now c.args.what s.rows.items (rows_of c.meant_rows-2.result) c.meant_rows-2.ensures) in
    record {
      changes = omega (arith, notes, ap owed c.control_rows.ensures.items, sum, c.requires.room.changes, c.requires.changes, c.note_among.ensures.len, c.note_among.ensures.capacity);
      orders = omega (arith, orders, ap owed_kills c.control_rows.ensures.items, asks, c.requires.room.orders, c.requires.orders, c.order_among.ensures.len, c.order_among.ensures.capacity);
    }

pub returns-clause-spare : goal.returns-clause-spare
returns-clause-spare c =
    let s = c.args.self.now in
    let sum = control-owed c.args.entry s.moment c.args.target.now c.args.what s.rows.items in
    let notes = ap length (noted-part c.args.entry s.moment c.args.target.now c.args.what s.rows.items (rows_of c.meant_rows.result) c.meant_rows.ensures) in
    omega (arith, notes, ap owed c.control_rows.ensures.items, sum, c.requires.room.changes, c.requires.changes, c.note_among.ensures.len, c.note_among.ensures.capacity)

pub returns-clause-quiet : goal.returns-clause-quiet
returns-clause-quiet c quiet =
    let s = c.args.self.now in
    record {
      rows = subst (AllByRecursion (IsAlarmed s.alarm.ends.items s.reservations.items)) (sym c.control_rows.ensures.items) (alarmed-controlled s.alarm.ends.items s.reservations.items s.moment c.args.target.now c.args.what s.rows.items quiet.rows);
      reservations = quiet.reservations;
      soonest = quiet.soonest;
      few = quiet.few;
    }
