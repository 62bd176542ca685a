use Rattle.std.proofs.Common.{◌≡◌, ◌∙◌, ◌+◌, ◌<◌, ◌++◌, ◌-◌, List, take, drop, length, ap, subst, sym, arith}
use Rattle.std.proofs.lemmas.List.{take_rest}
use Rattle.drmaa_model.specs.declared.rows.Row.{Row}
use Rattle.drmaa_model.specs.RowLaws.{all-implied}
use Rattle.plan_book.specs.BlockWalks.{both-parts}
use Rattle.plan_book.specs.Blocks.{KeptRows, rows_in}
use Rattle.plan_book.specs.Numbers.{HasAllFrom}
use Rattle.plan_book.specs.Quiet.{block_of}
use Rattle.plan_book.proofs.BlockRows.{front-below}
use Rattle.plan_book.proofs.summed_rows.Rows.blocks_from.Goals as goal

pub returns : goal.returns
returns c =
    let blocks = c.self.inside.blocks.items in
    let xs = c.deref.result.now in
    let n = c.min-from.result in
    let number = c.args.number in
    let rest = take (length xs - n) (drop n xs) in
    let same : rows_in (drop n blocks) ≡ rows_in rest = ap rows_in (ap (drop n) (sym c.deref.ensures.value) ∙ sym (take_rest xs n)) in
    let all : HasAllFrom number (rows_in blocks) (rows_in rest) = record {
      front = rows_in (take n blocks);
      lower = all-implied (λ (row : Row). block_of row.job.0 < 0 + n) (λ (row : Row). row.job.0 < number) (λ row less. omega (arith, less, c.min-from.ensures, c.block_of.ensures)) (rows_in (take n blocks)) (front-below _ n 0 blocks c.self.invariant.ordered);
      parts = both-parts blocks n ∙ ap (λ (rows : List Row). rows_in (take n blocks) ++ rows) same;
    } in
    subst (λ (v : KeptRows). HasAllFrom number v.items (rows_in rest)) c.self.view_is all
