use Rattle.std.proofs.Common.{ℕ, ◌<◌, List, length, sym, ◌∙◌, ap, subst, arith}
use Rattle.std.specs.List.{AllByRecursion}
use Rattle.drmaa_types.specs.declared.moments.End.{End}
use Rattle.drmaa_types.specs.declared.changes.Change.{Change}
use Rattle.drmaa_model.specs.declared.courses.Order.{Order}
use Rattle.drmaa_model.specs.declared.rows.Row.{Row}
use Rattle.drmaa_model.specs.Plan.{Plan}
use Rattle.drmaa_model.specs.RowLaws.{row_of-is, row_of-all}
use Rattle.plan_book.specs.Book.{plan_of, moved, owed, owed_kills, owes, owes_kill}
use Rattle.plan_book.specs.Quiet.{block_of, IsAlarmed, IsQuiet}
use Rattle.plan_book.proofs.AlarmLaws.{alarmed-put}
use Rattle.plan_book.proofs.BlockLaws.{lowered, lowered-quiet}
use Rattle.plan_book.proofs.MoveLaws.{moved-changes, moved-owed, moved-owed_kills, part-of}
use Rattle.plan_book.proofs.book.Book.move_now.Goals as goal

pub push_change-requires : goal.push_change-requires
push_change-requires c =
    let part = part-of c.args.entry (plan_of c.args.self.now) c.args.m.now c.requires.fit c.requires.move_is owes in
    omega (arith, part, c.requires.room.changes, c.requires.changes)

pub edit_orders-requires : goal.edit_orders-requires
edit_orders-requires c =
    let part = part-of c.args.entry (plan_of c.args.self.now) c.args.m.now c.requires.fit c.requires.move_is owes_kill in
    omega (arith, part, c.requires.room.orders, c.requires.orders)

pub returns-clause-plan : goal.returns-clause-plan
returns-clause-plan c =
    let p = plan_of c.args.self.now in
    let changes = c.push_change.ensures.items ∙ sym (moved-changes c.args.entry p c.args.m.now c.requires.fit c.requires.move_is) in
    ap (λ (cs : List Change). let q : Plan = record p { rows = c.put_course.new.self.items; orders = c.edit_orders.new.orders.items; changes = cs } in q) changes
    ∙ ap (λ (rs : List Row). let q : Plan = record (moved c.args.entry c.args.m.now p) { rows = rs; orders = c.edit_orders.new.orders.items } in q) c.put_course.ensures.items
    ∙ ap (λ (os : List Order). let q : Plan = record (moved c.args.entry c.args.m.now p) { orders = os } in q) c.edit_orders.ensures.items

pub returns-clause-room : goal.returns-clause-room
returns-clause-room c =
    let p = plan_of c.args.self.now in
    let sum = moved-owed c.args.entry p c.args.m.now c.requires.fit c.requires.move_is in
    let asks = moved-owed_kills c.args.entry p c.args.m.now c.requires.fit c.requires.move_is in
    let rows = c.put_course.ensures.items in
    record {
      changes = omega (arith, ap owed rows, sum, c.requires.room.changes, c.requires.changes, c.push_change.ensures.len, c.push_change.ensures.capacity);
      orders = omega (arith, ap owed_kills rows, asks, c.requires.room.orders, c.requires.orders, c.edit_orders.ensures.len, c.edit_orders.ensures.capacity);
    }

pub returns-clause-spare : goal.returns-clause-spare
returns-clause-spare c =
    let p = plan_of c.args.self.now in
    let sum = moved-owed c.args.entry p c.args.m.now c.requires.fit c.requires.move_is in
    omega (arith, ap owed c.put_course.ensures.items, sum, c.requires.room.changes, c.requires.changes, c.push_change.ensures.len, c.push_change.ensures.capacity)

pub lower-requires : goal.lower-requires
lower-requires c =
    let s = c.args.self.now in
    let row = c.requires.move_is.row in
    let found = c.requires.move_is.found in
    let own = row_of-all (IsAlarmed s.alarm.ends.items s.reservations.items) c.args.m.now.job s.rows.items row c.requires.quiet.rows found in
    subst (λ (n : ℕ). block_of n < length s.alarm.ends.items) (row_of-is c.args.m.now.job s.rows.items row found) own.covered

pub returns-clause-quiet : goal.returns-clause-quiet
returns-clause-quiet c =
    let s = c.args.self.now in
    let p = plan_of s in
    let rs = s.reservations.items in
    let es = s.alarm.ends.items in
    let m = c.args.m.now in
    let row = c.requires.move_is.row in
    let found = c.requires.move_is.found in
    let soon = c.soonest_with-soonest.result in
    let own = row_of-all (IsAlarmed es rs) m.job s.rows.items row c.requires.quiet.rows found in
    let within = subst (λ (n : ℕ). block_of n < length es) (row_of-is m.job s.rows.items row found) own.covered in
    let quiet : IsQuiet c.lower.new.self p = lowered-quiet s.alarm c.lower.new.self m.job.0 soon p within c.lower.ensures.ends c.lower.ensures.lasting c.lower.ensures.soonest c.requires.quiet in
    record {
      rows = subst (λ (ends : List End). AllByRecursion (IsAlarmed ends rs) c.put_course.new.self.items) (sym c.lower.ensures.ends)
          (subst (AllByRecursion (IsAlarmed (lowered es m.job.0 soon) rs)) (sym c.put_course.ensures.items)
          (alarmed-put es soon p m.job m.after row c.requires.quiet.rows c.requires.fit.jobs.rising found (c.soonest_with-soonest.ensures row found)));
      reservations = quiet.reservations;
      soonest = quiet.soonest;
      few = quiet.few;
    }
