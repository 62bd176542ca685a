use Rattle.std.proofs.Common.{◌≡◌, ◌∙◌, ◌+◌, ◌<◌, ◌++◌, ℕ, List, map, take, drop, get_or, length, length-append, append_assoc, ap, sym, subst, arith}
use Rattle.std.specs.Global.{Vec}
use Rattle.std.specs.List.{AllByRecursion, flat_map}
use Rattle.std.proofs.lemmas.Grind.{flat_map-append}
use Rattle.std.proofs.lemmas.List.{length-map, map-append}
use Rattle.drmaa_types.specs.declared.changes.Change.{Change}
use Rattle.drmaa_model.specs.declared.courses.Order.{Order}
use Rattle.drmaa_model.specs.declared.rows.Row.{Row}
use Rattle.drmaa_model.specs.RowLaws.{all-implied}
use Rattle.drmaa_model.specs.TimeLaws.{timed, timed-only}
use Rattle.plan_book.specs.declared.sums.Sums.{Sums}
use Rattle.plan_book.specs.Blocks.{AreBlocks, IsBlock, rows_in}
use Rattle.plan_book.specs.Lapses.{ends, kills_then}
use Rattle.plan_book.specs.Quiet.{block_of, IsAlarmed}
use Rattle.plan_book.specs.Sums.{AreSums}
use Rattle.plan_book.specs.BlockWalks.{back-more, front-more}
use Rattle.plan_book.proofs.BlockRows.{above-in, block-at, block-mapped, blocks-set, front-few, upto-more, upto-whole}
use Rattle.plan_book.proofs.SumLaws.{all-append, sums-append, sums-few}
use Rattle.plan_book.proofs.blocks.sweep_rows.Goals as goal
use Rattle.plan_book.proofs.blocks.sweep_rows.Goals.{After-index-blocks-block, After-sweep_block-next}

-- the block that it has come to
record Here (c : After-index-blocks-block) : Type 0 where
  pub within : c.loop-block.block < length c.args.blocks.now
  pub inside : c.loop-block.block < length c.loop-block.blocks
  pub there : get_or c.loop-block.blocks c.loop-block.block c.index-blocks-block.result ≡ get_or c.loop-block.blocks c.loop-block.block (get_or c.loop-block.blocks c.loop-block.block c.index-blocks-block.result)
  pub same : get_or c.loop-block.blocks c.loop-block.block c.index-blocks-block.result ≡ get_or c.args.blocks.now c.loop-block.block c.index-blocks-block.result
  pub own : get_or c.loop-block.blocks c.loop-block.block c.index-blocks-block.result ≡ get_or c.args.blocks.now c.loop-block.block (get_or c.loop-block.blocks c.loop-block.block c.index-blocks-block.result)

here : (c : After-index-blocks-block) → Here c
here c =
    let now = c.loop-block.blocks in
    let k = c.loop-block.block in
    let e = c.index-blocks-block.result in
    let inv = c.loop-block.invariant in
    record {
      within = omega (arith, c.loop-block-test.true);
      inside = omega (arith, c.loop-block-test.true, inv.upto.len);
      there = ap (λ (v : Vec Row). get_or now k v) c.index-blocks-block.is;
      same = inv.upto.rest k e (omega arith);
      own = ap (λ (v : Vec Row). get_or now k v) c.index-blocks-block.is ∙ inv.upto.rest k (get_or now k e) (omega arith);
    }

pub sweep_block-next-requires-clause-covered : goal.sweep_block-next-requires-clause-covered
sweep_block-next-requires-clause-covered c =
    let h = here (goal.at.sweep_block-next-requires-clause-covered c).After-index-blocks-block in
    let all = c.args.blocks.now in
    let k = c.loop-block.block in
    let e = c.index-blocks-block.result in
    let P : Row → Type 0 = λ row. block_of row.job.0 < length c.args.alarm.now.ends.items in
    subst (λ (n : ℕ). AllByRecursion (λ (row : Row). block_of row.job.0 < n) (get_or c.loop-block.blocks k e).items) (sym c.loop-block.invariant.blocks)
    (subst (λ (v : Vec Row). AllByRecursion P v.items) (sym h.same) (above-in P all k e h.within c.requires.covered))

pub with_others-sums-requires-clause-few : goal.with_others-sums-requires-clause-few
with_others-sums-requires-clause-few c =
    let all = c.args.blocks.now in
    let k = c.loop-block.block in
    let f = timed c.args.moment c.args.rs.now.items in
    sums-few (map f (rows_in (take k all))) c.loop-block.sums (omega (arith, length-map (rows_in (take k all)) f, front-few all k, c.requires.few)) c.loop-block.invariant.sums

pub with_others-sums-requires-clause-few_others : goal.with_others-sums-requires-clause-few_others
with_others-sums-requires-clause-few_others c =
    let v = c.sweep_block-next.new.rows in
    sums-few v.items c.sweep_block-next.result (omega (arith, v.ok.0, v.ok.1, v.small)) c.sweep_block-next.ensures.sums

pub loop-block-preserved : goal.loop-block-preserved
loop-block-preserved c =
    let h = here (goal.at.loop-block-preserved c).After-index-blocks-block in
    let rs = c.args.rs.now.items in
    let m = c.args.moment in
    let f = timed m rs in
    let e = ends c.args.entry m rs in
    let asks = kills_then m rs in
    let all = c.args.blocks.now in
    let now = c.loop-block.blocks in
    let k = c.loop-block.block in
    let d = get_or now k c.index-blocks-block.result in
    let swept = c.sweep_block-next in
    let b = swept.new.rows in
    let inv = c.loop-block.invariant in
    let ended = flat_map e (rows_in (drop (k + 1) all)) in
    let asked = flat_map asks (rows_in (drop (k + 1) all)) in
    let back = back-more all k d h.within h.own in
    let next_e : flat_map e (rows_in (drop k all)) ≡ flat_map e d.items ++ ended = ap (flat_map e) back ∙ flat_map-append e d.items (rows_in (drop (k + 1) all)) in
    let next_k : flat_map asks (rows_in (drop k all)) ≡ flat_map asks d.items ++ asked = ap (flat_map asks) back ∙ flat_map-append asks d.items (rows_in (drop (k + 1) all)) in
    let long_e = length-append (flat_map e d.items) ended in
    let long_k = length-append (flat_map asks d.items) asked in
    let front : map f (rows_in (take (k + 1) all)) ≡ map f (rows_in (take k all)) ++ b.items =
    ap (map f) (front-more all k d h.within h.own) ∙ map-append f (rows_in (take k all)) d.items ∙ ap (λ (xs : List Row). map f (rows_in (take k all)) ++ xs) (sym swept.ensures.items) in
    let was = λ (from n : ℕ) (is : AreBlocks from n all). subst (IsBlock from (n + k)) (sym h.there) (block-at n now k d (inv.are from n is) h.inside) in
    let es = swept.new.alarm.ends.items in
    record {
      are = λ from n is. blocks-set n now k b (inv.are from n is) (block-mapped (n + k) f (λ row. ap (λ (x : Row). x.job) (timed-only m rs row)) d b (was from n is) swept.ensures.items swept.ensures.capacity);
      upto = upto-more (map f) 0 k all now b d inv.upto (omega arith) h.inside h.there swept.ensures.items;
      changes = ap (λ (ys : List Change). ys ++ ended) swept.ensures.changes ∙ append_assoc c.loop-block.changes.items (flat_map e d.items) ended ∙ ap (λ (ys : List Change). c.loop-block.changes.items ++ ys) (sym next_e) ∙ inv.changes;
      changes_room = omega (arith, inv.changes_room, ap length next_e, long_e, swept.ensures.changes_len, swept.ensures.changes_capacity);
      changes_len = omega (arith, inv.changes_len, ap length next_e, long_e, swept.ensures.changes_len);
      changes_capacity = swept.ensures.changes_capacity ∙ inv.changes_capacity;
      orders = ap (λ (ys : List Order). ys ++ asked) swept.ensures.orders ∙ append_assoc c.loop-block.orders.items (flat_map asks d.items) asked ∙ ap (λ (ys : List Order). c.loop-block.orders.items ++ ys) (sym next_k) ∙ inv.orders;
      orders_room = omega (arith, inv.orders_room, ap length next_k, long_k, swept.ensures.orders_len, swept.ensures.orders_capacity);
      orders_len = omega (arith, inv.orders_len, ap length next_k, long_k, swept.ensures.orders_len);
      orders_capacity = swept.ensures.orders_capacity ∙ inv.orders_capacity;
      sums = subst (λ (xs : List Row). AreSums xs c.with_others-sums.result) (sym front)
          (subst (λ (sums : Sums). AreSums (map f (rows_in (take k all)) ++ b.items) sums) (sym c.with_others-sums.ensures)
          (sums-append (map f (rows_in (take k all))) b.items c.loop-block.sums swept.result inv.sums swept.ensures.sums));
      alarmed = subst (AllByRecursion (IsAlarmed es rs)) (sym front)
          (all-append (IsAlarmed es rs) (map f (rows_in (take k all))) b.items (all-implied (IsAlarmed c.loop-block.alarm.ends.items rs) (IsAlarmed es rs) swept.ensures.kept (map f (rows_in (take k all))) inv.alarmed) swept.ensures.alarmed);
      kept = λ row was. swept.ensures.kept row (inv.kept row was);
      blocks = swept.ensures.blocks ∙ inv.blocks;
    }

pub returns-clause-each : goal.returns-clause-each
returns-clause-each c =
    let f = timed c.args.moment c.args.rs.now.items in
    let all = c.args.blocks.now in
    let k = c.loop-block.block in
    (let upto = upto-whole (map f) k all c.loop-block.blocks (omega (arith, c.loop-block-test.false)) c.loop-block.invariant.upto in λ j d within. upto.done j d (omega arith) within within)
