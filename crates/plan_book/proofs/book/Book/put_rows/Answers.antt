use Rattle.std.proofs.Common.{ap, sym, subst, arith}
use Rattle.std.specs.List.{AllByRecursion}
use Rattle.drmaa_model.specs.FitLaws.{all-append}
use Rattle.plan_book.specs.Book.{plan_of, owed, owed_kills}
use Rattle.plan_book.specs.Quiet.{IsAlarmed}
use Rattle.plan_book.proofs.ArrivalLaws.{joined-owed, joined-owed_kills}
use Rattle.plan_book.proofs.book.Book.put_rows.Goals as goal

pub returns-clause-room : goal.returns-clause-room
returns-clause-room c =
    let old = c.args.self.now.rows.items in
    let rows = c.args.rows.items in
    record {
      changes = omega (arith, ap owed c.append_rows.ensures.items, joined-owed old rows c.requires.waits, c.requires.room.changes, c.requires.changes);
      orders = omega (arith, ap owed_kills c.append_rows.ensures.items, joined-owed_kills old rows c.requires.waits, c.requires.room.orders);
    }

pub returns-clause-spare : goal.returns-clause-spare
returns-clause-spare c =
    let old = c.args.self.now.rows.items in
    let rows = c.args.rows.items in
    omega (arith, ap owed c.append_rows.ensures.items, joined-owed old rows c.requires.waits, c.requires.room.changes, c.requires.changes)

pub returns-clause-quiet : goal.returns-clause-quiet
returns-clause-quiet c =
    let s = c.args.self.now in
    let rs = s.reservations.items in
    let alarm = c.alarm_rows.new.alarm in
    let quiet = c.alarm_rows.ensures.quiet (plan_of s) c.requires.quiet in
    record {
      rows = subst (AllByRecursion (IsAlarmed alarm.ends.items rs)) (sym c.append_rows.ensures.items) (all-append (IsAlarmed alarm.ends.items rs) s.rows.items c.args.rows.items quiet.rows c.alarm_rows.ensures.rows);
      reservations = quiet.reservations;
      soonest = quiet.soonest;
      few = quiet.few;
    }
