use Rattle.std.proofs.Common.{◌≡◌, ℕ, ◌<◌, ◌++◌, List, map, filter, length, sym, ◌∙◌, ap, subst, arith}
use Rattle.std.specs.List.{AllByRecursion, flat_map}
use Rattle.std.proofs.lemmas.List.{length-map}
use Rattle.drmaa_types.specs.declared.changes.Change.{Change}
use Rattle.drmaa_types.specs.declared.moments.End.{End}
use Rattle.drmaa_model.specs.declared.courses.Order.{Order}
use Rattle.drmaa_model.specs.declared.reservations.Accepted.{Accepted}
use Rattle.drmaa_model.specs.declared.rows.Row.{Row}
use Rattle.drmaa_model.specs.Plan.{Plan}
use Rattle.drmaa_model.specs.RowLaws.{all-implied}
use Rattle.drmaa_model.specs.Rows.{change_of}
use Rattle.drmaa_model.specs.Time.{lapses, lapsed, is_due, called_in, kill_order}
use Rattle.drmaa_model.specs.TimeLaws.{changes-lapsed, expiry, map-twice}
use Rattle.plan_book.specs.Book.{plan_of, owed, owed_kills}
use Rattle.plan_book.specs.Lapses.{ends, kills_then}
use Rattle.plan_book.specs.Quiet.{block_of, IsAlarmed, IsLeftUntil, IsOutside, IsSpared, LastsUntil}
use Rattle.plan_book.proofs.LapseLaws.{filter-flat, kills-flat}
use Rattle.plan_book.proofs.RoomLaws.{changes-expire, orders-expire, changes-called, orders-called}
use Rattle.plan_book.proofs.book.Book.sweep.Goals as goal

-- so many changes and orders as there are jobs whose time is over
count-ended : (entry m : ℕ) (rs : List Accepted) (rows : List Row) → length (flat_map (ends entry m rs) rows) ≡ length (filter (lapses m rs) rows)
count-ended entry m rs rows = ap length (filter-flat (lapses m rs) (expiry entry) rows) ∙ length-map (filter (lapses m rs) rows) (expiry entry)

count-asked : (m : ℕ) (rs : List Accepted) (rows : List Row) → length (flat_map (kills_then m rs) rows) ≡ length (filter (is_due m rs) (map (lapsed m rs) rows))
count-asked m rs rows = ap length (kills-flat m rs rows) ∙ length-map (filter (is_due m rs) (map (lapsed m rs) rows)) kill_order

pub sweep_rows-requires-clause-changes : goal.sweep_rows-requires-clause-changes
sweep_rows-requires-clause-changes c =
    let s = c.args.self.now in
    omega (arith, c.requires.room.changes, count-ended c.args.entry s.moment s.reservations.items s.rows.items, changes-expire s.moment s.reservations.items s.rows.items)

pub sweep_rows-requires-clause-orders : goal.sweep_rows-requires-clause-orders
sweep_rows-requires-clause-orders c =
    let s = c.args.self.now in
    let m = s.moment in
    let rs = s.reservations.items in
    omega (arith, c.requires.room.orders, count-asked m rs s.rows.items, orders-expire m rs s.rows.items, orders-called m rs (map (lapsed m rs) s.rows.items))

pub returns-clause-plan : goal.returns-clause-plan
returns-clause-plan c =
    let s = c.args.self.now in
    let m = s.moment in
    let rs = s.reservations.items in
    let swept = c.sweep_rows in
    let rows : swept.new.self.items ≡ map (called_in m rs) (map (lapsed m rs) s.rows.items) = swept.ensures.items ∙ map-twice (called_in m rs) (lapsed m rs) s.rows.items in
    let changes : swept.new.changes.items ≡ s.changes.items ++ flat_map (λ row. change_of c.args.entry row (lapsed m rs row)) s.rows.items =
    swept.ensures.changes ∙ ap (λ (cs : List Change). s.changes.items ++ cs) (filter-flat (lapses m rs) (expiry c.args.entry) s.rows.items ∙ sym (changes-lapsed c.args.entry m rs s.rows.items)) in
    let orders : swept.new.orders.items ≡ s.orders.items ++ map kill_order (filter (is_due m rs) (map (lapsed m rs) s.rows.items)) =
    swept.ensures.orders ∙ ap (λ (os : List Order). s.orders.items ++ os) (kills-flat m rs s.rows.items) in
    ap (λ xs. let p : Plan = record (plan_of s) { rows = xs; changes = swept.new.changes.items; orders = swept.new.orders.items } in p) rows
    ∙ ap (λ cs. let p : Plan = record (plan_of s) { rows = map (called_in m rs) (map (lapsed m rs) s.rows.items); changes = cs; orders = swept.new.orders.items } in p) changes
    ∙ ap (λ os. let p : Plan = record (plan_of s) { rows = map (called_in m rs) (map (lapsed m rs) s.rows.items); changes = s.changes.items ++ flat_map (λ row. change_of c.args.entry row (lapsed m rs row)) s.rows.items; orders = os } in p) orders

pub returns-clause-room : goal.returns-clause-room
returns-clause-room c =
    let s = c.args.self.now in
    let m = s.moment in
    let rs = s.reservations.items in
    let old = s.rows.items in
    let swept = c.sweep_rows in
    let rows : swept.new.self.items ≡ map (called_in m rs) (map (lapsed m rs) old) = swept.ensures.items ∙ map-twice (called_in m rs) (lapsed m rs) old in
    record {
      changes = omega (arith, ap owed rows, c.requires.room.changes, swept.ensures.changes_len, swept.ensures.changes_capacity, count-ended c.args.entry m rs old, changes-expire m rs old, changes-called m rs (map (lapsed m rs) old));
      orders = omega (arith, ap owed_kills rows, c.requires.room.orders, swept.ensures.orders_len, swept.ensures.orders_capacity, count-asked m rs old, orders-expire m rs old, orders-called m rs (map (lapsed m rs) old));
    }

pub returns-clause-spare : goal.returns-clause-spare
returns-clause-spare c =
    let s = c.args.self.now in
    let m = s.moment in
    let rs = s.reservations.items in
    let old = s.rows.items in
    let swept = c.sweep_rows in
    let rows : swept.new.self.items ≡ map (called_in m rs) (map (lapsed m rs) old) = swept.ensures.items ∙ map-twice (called_in m rs) (lapsed m rs) old in
    omega (arith, ap owed rows, c.requires.room.changes, swept.ensures.changes_len, swept.ensures.changes_capacity, count-ended c.args.entry m rs old, changes-expire m rs old, changes-called m rs (map (lapsed m rs) old))

pub returns-clause-spare_orders : goal.returns-clause-spare_orders
returns-clause-spare_orders c =
    let s = c.args.self.now in
    let m = s.moment in
    let rs = s.reservations.items in
    let old = s.rows.items in
    let swept = c.sweep_rows in
    let rows : swept.new.self.items ≡ map (called_in m rs) (map (lapsed m rs) old) = swept.ensures.items ∙ map-twice (called_in m rs) (lapsed m rs) old in
    omega (arith, ap owed_kills rows, c.requires.room.orders, swept.ensures.orders_len, swept.ensures.orders_capacity, count-asked m rs old, orders-expire m rs old, orders-called m rs (map (lapsed m rs) old))

pub returns-clause-quiet : goal.returns-clause-quiet
returns-clause-quiet c =
    let rs = c.args.self.now.reservations.items in
    let swept = c.sweep_rows in
    record {
      rows = subst (λ (es : List End). AllByRecursion (IsAlarmed es rs) swept.new.self.items) (sym c.settle.ensures.ends) swept.ensures.alarmed;
      reservations = subst (λ (e : End). AllByRecursion (LastsUntil e) rs) (sym c.settle.ensures.lasting) c.requires.lasting;
      soonest = c.settle.ensures.soonest;
      few = omega (arith, c.requires.few, c.open.ensures.len, swept.ensures.blocks, ap (λ (es : List End). length es) c.settle.ensures.ends);
    }

pub sweep_rows-requires-clause-covered : goal.sweep_rows-requires-clause-covered
sweep_rows-requires-clause-covered c =
    subst (λ (n : ℕ). AllByRecursion (λ (row : Row). block_of row.job.0 < n) c.args.self.now.rows.items) (sym c.open.ensures.len) c.requires.covered

pub sweep_rows-requires-clause-outside : goal.sweep_rows-requires-clause-outside
sweep_rows-requires-clause-outside c =
    let s = c.args.self.now in
    let rs = s.reservations.items in
    let blocks = c.args.blocks in
    all-implied (λ (row : Row). IsOutside blocks (block_of row.job.0) → IsSpared s.moment s.alarm.ends.items rs row) (λ (row : Row). IsOutside blocks (block_of row.job.0) → IsSpared s.moment c.open.new.self.ends.items rs row)
    (λ row spared outside. (let own = spared outside in
    record { now = own.now; left = subst (λ (e : End). IsLeftUntil e rs row) (sym (c.open.ensures.outside (block_of row.job.0) outside)) own.left })) s.rows.items c.requires.outside
