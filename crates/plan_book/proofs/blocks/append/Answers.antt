use Rattle.std.proofs.Common.{◌∙◌, ◌<◌, ◌≤◌, ◌++◌, ◌∷◌, [], List, length, append_assoc, ap, subst, sym, arith}
use Rattle.std.specs.List.{AllByRecursion}
use Rattle.std.specs.Vec.Iter.{into_iter_items}
use Rattle.drmaa_model.specs.declared.rows.Row.{Row}
use Rattle.drmaa_model.specs.Fit.{IsRising, number_of}
use Rattle.plan_book.specs.Blocks.{AreBlocks, rows_in}
use Rattle.plan_book.specs.Quiet.{block_of}
use Rattle.plan_book.proofs.BlockRows.{rising-above}
use Rattle.plan_book.proofs.blocks.append.Goals as goal

pub push-requires-clause-above : goal.push-requires-clause-above
push-requires-clause-above c =
    let xs = rows_in c.loop-row.blocks.items in
    let rising : IsRising number_of (xs ++ into_iter_items c.loop-row.row-iterator) = subst (IsRising number_of) (sym c.loop-row.invariant.placed) c.requires.rising in
    let steps = (c.in-Some.ensures {u = tt}).steps in
    rising-above xs c.in-Some.row (into_iter_items c.next.new.self) (subst (λ (rows : List Row). IsRising number_of (xs ++ rows)) steps.0 rising)

pub push-requires-clause-are : goal.push-requires-clause-are
push-requires-clause-are c =
    let steps = (c.in-Some.ensures {u = tt}).steps in
    let inv = c.loop-row.invariant in
    inv.are (block_of c.in-Some.row.job.0) (subst (AllByRecursion (λ (r : Row). AreBlocks (block_of r.job.0) 0 c.args.blocks.now.items)) steps.0 inv.seats).0

pub loop-row-preserved : goal.loop-row-preserved
loop-row-preserved c =
    let steps = (c.in-Some.ensures {u = tt}).steps in
    let row = c.in-Some.row in
    let it = into_iter_items c.loop-row.row-iterator in
    let next = into_iter_items c.next.new.self in
    let inv = c.loop-row.invariant in
    let now = rows_in c.loop-row.blocks.items in
    record {
      can = tt;
      finite = tt;
      left = omega (arith, inv.left, ap (λ (rows : List Row). length rows) steps.0, steps.1);
      are = λ from are. c.push.ensures.are from (inv.are from are);
      len = c.push.ensures.len ∙ inv.len;
      placed = ap (λ (rows : List Row). rows ++ next) c.push.ensures.rows ∙ append_assoc now (row ∷ []) next ∙ ap (λ (rows : List Row). now ++ rows) (sym steps.0) ∙ inv.placed;
      front = λ n all.
          (let was = inv.front n all in
          let both = subst (AllByRecursion (λ (r : Row). n ≤ block_of r.job.0)) steps.0 was.1 in
          (c.push.ensures.front n both.0 ∙ was.0, both.1));
      seats = (subst (AllByRecursion (λ (r : Row). AreBlocks (block_of r.job.0) 0 c.args.blocks.now.items)) steps.0 inv.seats).1;
      room = (subst (AllByRecursion (λ (r : Row). block_of r.job.0 < length c.args.blocks.now.items)) steps.0 inv.room).1;
    }
