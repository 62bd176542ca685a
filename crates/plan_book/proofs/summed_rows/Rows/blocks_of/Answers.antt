use Rattle.std.proofs.Common.{◌≡◌, ◌∙◌, inl, inr, ◌++◌, ◌-◌, ◌<◌, ◌≤◌, ◌+◌, List, take, drop, length, ap, subst, sym, arith}
use Rattle.std.specs.Global.{Vec}
use Rattle.drmaa_model.specs.declared.rows.Row.{Row}
use Rattle.drmaa_model.specs.RowLaws.{all-both, all-implied}
use Rattle.plan_book.specs.Blocks.{KeptRows, rows_in}
use Rattle.plan_book.specs.Due.{HasAllOf}
use Rattle.plan_book.specs.Quiet.{block_of, IsOutside}
use Rattle.plan_book.proofs.BlockRows.{back-below, back-from, front-below, three-parts}
use Rattle.plan_book.proofs.summed_rows.Rows.blocks_of.Goals as goal

pub returns : goal.returns
returns c =
    let blocks = c.self.inside.blocks.items in
    let from = c.min-from.result in
    let until = c.min-until.result in
    let places = c.args.places in
    let len = c.self.inside.blocks.ok.0 in
    let part = rows_in (take (until - from) (drop from c.deref.result.now)) in
    let same : rows_in (take (until - from) (drop from blocks)) ≡ part = ap (λ (bs : List (Vec Row)). rows_in (take (until - from) (drop from bs))) (sym c.deref.ensures.value) in
    let all : HasAllOf places (rows_in blocks) part = record {
      before = rows_in (take from blocks);
      behind = rows_in (drop until blocks);
      none_before = all-implied (λ (row : Row). block_of row.job.0 < 0 + from) (λ (row : Row). IsOutside places (block_of row.job.0)) (λ row less. inl (omega (arith, less, c.min-from.ensures))) (rows_in (take from blocks)) (front-below _ from 0 blocks c.self.invariant.ordered);
      none_behind = all-implied (λ (row : Row). (until ≤ block_of row.job.0) × (block_of row.job.0 < length blocks)) (λ (row : Row). IsOutside places (block_of row.job.0))
          (λ row both. (let low = both.0 in let high = both.1 in inr (omega (arith, low, high, c.min-until.ensures, c.len.ensures, len)))) (rows_in (drop until blocks))
          (all-both (λ (row : Row). until ≤ block_of row.job.0) (λ (row : Row). block_of row.job.0 < length blocks) (rows_in (drop until blocks))
          (back-from _ until blocks (omega (arith, c.min-until.ensures, c.len.ensures, len)) c.self.invariant.ordered) (back-below _ until blocks c.self.invariant.ordered));
      parts = three-parts blocks from until (omega (arith, c.min-from.ensures)) ∙ ap (λ (rows : List Row). rows_in (take from blocks) ++ (rows ++ rows_in (drop until blocks))) same;
    } in
    subst (λ (v : KeptRows). HasAllOf places v.items part) c.self.view_is all
