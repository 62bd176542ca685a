use Rattle.std.proofs.Common.{take}
use Rattle.drmaa_model.specs.RowLaws.{all-implied}
use Rattle.plan_book.specs.Spans.{IsSpanned}
use Rattle.plan_book.proofs.QuietLaws.{all-more}
use Rattle.plan_book.proofs.SpanLaws.{spanned-then}
use Rattle.plan_book.proofs.spans.Spans.put_rows.Goals as goal

pub loop-row-preserved : goal.loop-row-preserved
loop-row-preserved c =
    let xs = c.args.more.now in
    let i = c.loop-row.row-index in
    let was = c.loop-row.self in
    let now = c.put_row.new.self in
    record {
      sorted = c.put_row.ensures.sorted;
      arrays = λ group job within. c.put_row.ensures.arrays group job (c.loop-row.invariant.arrays group job within);
      homes = λ group job within. c.put_row.ensures.homes group job (c.loop-row.invariant.homes group job within);
      members = all-more (IsSpanned now) xs i c.row-item.result c.loop-row-test.true c.row-item.is
          (all-implied (IsSpanned was) (IsSpanned now) (spanned-then was now c.put_row.ensures.arrays c.put_row.ensures.homes) (take i xs) c.loop-row.invariant.members) c.put_row.ensures.member;
    }
