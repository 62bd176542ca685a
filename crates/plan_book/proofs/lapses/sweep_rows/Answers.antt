use Rattle.std.proofs.Common.{◌≡◌, ◌+◌, ◌<◌, ◌^◌, ◌++◌, List, map, take, drop, get_or, set, length, length-take, length-append, length-set, ap, sym, subst, ◌∙◌, arith}
use Rattle.std.specs.List.{AllByRecursion, flat_map}
use Rattle.std.proofs.lemmas.List.{append_assoc, length-map}
use Rattle.std.proofs.lemmas.List.Edits.{map_over_more}
use Rattle.drmaa_types.specs.declared.changes.Change.{Change}
use Rattle.drmaa_types.specs.declared.moments.End.{End}
use Rattle.drmaa_model.specs.declared.courses.Order.{Order}
use Rattle.drmaa_model.specs.declared.rows.Row.{Row}
use Rattle.drmaa_model.specs.Courses.{lesser_end}
use Rattle.drmaa_model.specs.Time.{lapsed, called_in}
use Rattle.drmaa_model.specs.Fit.{number_of}
use Rattle.drmaa_model.specs.TimeLaws.{timed, timed-only}
use Rattle.plan_book.specs.declared.sums.Sums.{Sums}
use Rattle.plan_book.specs.Lapses.{ends, kills, kills_then}
use Rattle.plan_book.specs.Quiet.{block_of, end_of, IsAlarmed, acts_at}
use Rattle.plan_book.specs.Sums.{AreSums, with_job}
use Rattle.plan_book.proofs.BlockLaws.{lowered, lowered-alarmed}
use Rattle.plan_book.proofs.Flat.{flat-more}
use Rattle.plan_book.proofs.LapseLaws.{read-more, sums-more, alarmed-more}
use Rattle.plan_book.proofs.Searched.{all-at}
use Rattle.plan_book.proofs.SumLaws.{sums-few}
use Rattle.plan_book.proofs.lapses.sweep_rows.Goals as goal
use Rattle.plan_book.proofs.lapses.sweep_rows.Goals.{After-acts_at}

pub expire_row-requires-clause-room : goal.expire_row-requires-clause-room
expire_row-requires-clause-room c =
    let rs = c.args.rs.now.items in
    let f = ends c.args.entry c.args.moment rs in
    let xs = c.args.rows.now in
    let i = c.loop-row.row-index in
    let x = c.row-item.result in
    let read = read-more (timed c.args.moment rs) xs c.loop-row.rows i x c.loop-row-test.true c.loop-row.invariant.rows c.row-item.is in
    let next = flat-more f xs i x c.loop-row-test.true read in
    omega (arith, c.loop-row.invariant.changes_room, ap length next, length-append (f x) (flat_map f (drop (i + 1) xs)), ap (λ (r : Row). length (f r)) c.row-item.is)

pub call_in_row-requires-clause-room : goal.call_in_row-requires-clause-room
call_in_row-requires-clause-room c =
    let rs = c.args.rs.now.items in
    let f = kills_then c.args.moment rs in
    let xs = c.args.rows.now in
    let i = c.loop-row.row-index in
    let x = c.row-item.result in
    let read = read-more (timed c.args.moment rs) xs c.loop-row.rows i x c.loop-row-test.true c.loop-row.invariant.rows c.row-item.is in
    let next = flat-more f xs i x c.loop-row-test.true read in
    omega (arith, c.loop-row.invariant.orders_room, ap length next, length-append (f x) (flat_map f (drop (i + 1) xs)), ap (λ (r : Row). length (kills c.args.moment rs r)) (c.expire_row.ensures.row ∙ ap (lapsed c.args.moment rs) (sym c.row-item.is)))

pub with_job-sums-requires : goal.with_job-sums-requires
with_job-sums-requires c =
    let rs = c.args.rs.now.items in
    let f = timed c.args.moment rs in
    let xs = c.args.rows.now in
    let i = c.loop-row.row-index in
    record { few = sums-few (map f (take i xs)) c.loop-row.sums (omega (arith, length-map (take i xs) f, length-take i xs, c.requires.few)) c.loop-row.invariant.sums }

-- the block of the job that it has come to is there
covered : (c : After-acts_at) → block_of c.call_in_row.new.row.job.0 < length c.loop-row.alarm.ends.items
covered c =
    let rs = c.args.rs.now.items in
    let m = c.args.moment in
    let f = timed m rs in
    let xs = c.args.rows.now in
    let i = c.loop-row.row-index in
    let x = c.row-item.result in
    let within = c.loop-row-test.true in
    let read : x ≡ get_or xs i x = read-more f xs c.loop-row.rows i x within c.loop-row.invariant.rows c.row-item.is in
    let goes : c.call_in_row.new.row ≡ f x = c.call_in_row.ensures.row ∙ ap (called_in m rs) c.expire_row.ensures.row ∙ ap f (sym c.row-item.is) in
    let own : block_of (get_or xs i x).job.0 < length c.args.alarm.now.ends.items = all-at number_of (λ (r : Row). block_of r.job.0 < length c.args.alarm.now.ends.items) xs c.requires.covered i x within in
    let same : c.call_in_row.new.row.job.0 ≡ (get_or xs i x).job.0 = ap (λ (r : Row). r.job.0) (goes ∙ timed-only m rs x) ∙ ap (λ (r : Row). r.job.0) read in
    omega (arith, own, ap block_of same, c.loop-row.invariant.blocks)

pub loop-row-preserved : goal.loop-row-preserved
loop-row-preserved c =
    let rs = c.args.rs.now.items in
    let m = c.args.moment in
    let f = timed m rs in
    let e = ends c.args.entry m rs in
    let k = kills_then m rs in
    let xs = c.args.rows.now in
    let i = c.loop-row.row-index in
    let x = c.row-item.result in
    let within = c.loop-row-test.true in
    let read : x ≡ get_or xs i x = read-more f xs c.loop-row.rows i x within c.loop-row.invariant.rows c.row-item.is in
    let goes : c.call_in_row.new.row ≡ f x = c.call_in_row.ensures.row ∙ ap (called_in m rs) c.expire_row.ensures.row ∙ ap f (sym c.row-item.is) in
    let ended = flat_map e (drop (i + 1) xs) in
    let asked = flat_map k (drop (i + 1) xs) in
    let next_e = flat-more e xs i x within read in
    let next_k = flat-more k xs i x within read in
    let long_e = length-append (e x) ended in
    let long_k = length-append (k x) asked in
    let kills_is : kills m rs c.expire_row.new.row ≡ k x = ap (kills m rs) c.expire_row.ensures.row ∙ ap k (sym c.row-item.is) in
    let ends_is : e (get_or c.loop-row.rows i x) ≡ e x = ap e (sym c.row-item.is) in
    let here : block_of (f x).job.0 < length c.loop-row.alarm.ends.items = subst (λ (r : Row). block_of r.job.0 < length c.loop-row.alarm.ends.items) goes (covered (goal.at.loop-row-preserved c).After-acts_at) in
    let next_alarm : c.lower.new.self.ends.items ≡ lowered c.loop-row.alarm.ends.items (f x).job.0 (acts_at rs (f x)) =
    c.lower.ensures.ends ∙ ap (λ (e : End). lowered c.loop-row.alarm.ends.items c.call_in_row.new.row.job.0 e) c.acts_at.ensures ∙ ap (λ (r : Row). lowered c.loop-row.alarm.ends.items r.job.0 (acts_at rs r)) goes in
    record {
      rows = ap (λ (r : Row). set c.loop-row.rows i r) goes ∙ map_over_more f xs c.loop-row.rows i x within c.loop-row.invariant.rows c.row-item.is;
      changes = ap (λ (ys : List Change). ys ++ ended) (c.expire_row.ensures.items ∙ ap (λ (ys : List Change). c.loop-row.changes.items ++ ys) ends_is) ∙ append_assoc c.loop-row.changes.items (e x) ended
          ∙ ap (λ (ys : List Change). c.loop-row.changes.items ++ ys) (sym next_e) ∙ c.loop-row.invariant.changes;
      changes_room = omega (arith, c.loop-row.invariant.changes_room, ap length next_e, long_e, ap length ends_is, c.expire_row.ensures.len, c.expire_row.ensures.capacity);
      changes_len = omega (arith, c.loop-row.invariant.changes_len, ap length next_e, long_e, ap length ends_is, c.expire_row.ensures.len);
      changes_capacity = c.expire_row.ensures.capacity ∙ c.loop-row.invariant.changes_capacity;
      orders = ap (λ (ys : List Order). ys ++ asked) (c.call_in_row.ensures.items ∙ ap (λ (ys : List Order). c.loop-row.orders.items ++ ys) kills_is) ∙ append_assoc c.loop-row.orders.items (k x) asked
          ∙ ap (λ (ys : List Order). c.loop-row.orders.items ++ ys) (sym next_k) ∙ c.loop-row.invariant.orders;
      orders_room = omega (arith, c.loop-row.invariant.orders_room, ap length next_k, long_k, ap length kills_is, c.call_in_row.ensures.len, c.call_in_row.ensures.capacity);
      orders_len = omega (arith, c.loop-row.invariant.orders_len, ap length next_k, long_k, ap length kills_is, c.call_in_row.ensures.len);
      orders_capacity = c.call_in_row.ensures.capacity ∙ c.loop-row.invariant.orders_capacity;
      sums = subst (λ (sums : Sums). AreSums (map f (take (i + 1) xs)) sums) (ap (λ (r : Row). with_job c.loop-row.sums r.course) (sym goes) ∙ sym c.with_job-sums.ensures.value)
          (sums-more f xs i x c.loop-row.sums within read (subst (λ (r : Row). r.course.held < 2 ^ 32) goes c.with_job-sums.ensures.small) c.loop-row.invariant.sums);
      alarmed = subst (λ (es : List End). AllByRecursion (IsAlarmed es rs) (map f (take (i + 1) xs))) (sym next_alarm)
          (alarmed-more f rs xs i x c.loop-row.alarm.ends.items within read here c.loop-row.invariant.alarmed);
      kept = λ row was. subst (λ (es : List End). IsAlarmed es rs row) (sym next_alarm)
          (lowered-alarmed c.loop-row.alarm.ends.items (f x).job.0 (acts_at rs (f x)) here rs row (c.loop-row.invariant.kept row was));
      blocks = ap (λ (es : List End). length es) next_alarm ∙ length-set c.loop-row.alarm.ends.items (block_of (f x).job.0) (lesser_end (end_of c.loop-row.alarm.ends.items (f x).job.0) (acts_at rs (f x))) ∙ c.loop-row.invariant.blocks;
    }

pub lower-requires : goal.lower-requires
lower-requires c = covered c
