use Rattle.std.proofs.Common.{◌≤◌, take, arith}
use Rattle.drmaa_model.specs.declared.rows.Row.{Row}
use Rattle.drmaa_model.specs.RowLaws.{all-implied}
use Rattle.plan_book.specs.Quiet.{block_of}
use Rattle.plan_book.proofs.QuietLaws.{all-more}
use Rattle.plan_book.proofs.summed_rows.first_block.Goals as goal

pub loop-row-preserved : goal.loop-row-preserved
loop-row-preserved c =
    let xs = c.args.more.now in
    let i = c.loop-row.row-index in
    let was = c.loop-row.first in
    let now = c.min-first.result in
    record {
      less = omega (arith, c.min-first.ensures, c.loop-row.invariant.less);
      before = all-more (λ (row : Row). now ≤ block_of row.job.0) xs i c.row-item.result c.loop-row-test.true c.row-item.is
          (all-implied (λ (row : Row). was ≤ block_of row.job.0) (λ (row : Row). now ≤ block_of row.job.0) (λ row less. omega (arith, less, c.min-first.ensures)) (take i xs) c.loop-row.invariant.before)
          (omega (arith, c.min-first.ensures, c.block_of.ensures));
    }
