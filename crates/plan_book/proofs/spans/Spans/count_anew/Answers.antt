use Rattle.std.proofs.Common.{List, take, sym, subst, arith}
use Rattle.std.specs.List.{AllByRecursion}
use Rattle.drmaa_model.specs.declared.rows.Row.{Row}
use Rattle.plan_book.specs.Blocks.{rows_in}
use Rattle.plan_book.specs.Spans.{AreSpanned, IsSpanned}
use Rattle.plan_book.specs.BlockWalks.{front-more, front-whole}
use Rattle.plan_book.proofs.SpanLaws.{spanned-append}
use Rattle.plan_book.proofs.spans.Spans.count_anew.Goals as goal

pub put_rows-requires : goal.put_rows-requires
put_rows-requires c = c.loop-block.invariant.sorted

pub loop-block-preserved : goal.loop-block-preserved
loop-block-preserved c =
    let bs = c.args.blocks.now in
    let i = c.loop-block.block-index in
    let v = c.block-item.result in
    let now = c.put_rows.new.self in
    subst (λ (rows : List Row). AreSpanned rows now) (sym (front-more bs i v c.loop-block-test.true c.block-item.is))
    (spanned-append (rows_in (take i bs)) v.items c.loop-block.self now c.loop-block.invariant c.put_rows.ensures.sorted c.put_rows.ensures.arrays c.put_rows.ensures.homes
    (subst (AllByRecursion (IsSpanned now)) c.deref.ensures.value c.put_rows.ensures.members))

pub returns : goal.returns
returns c = subst (λ (rows : List Row). AreSpanned rows c.loop-block.self) (front-whole c.args.blocks.now c.loop-block.block-index (omega (arith, c.loop-block-test.false))) c.loop-block.invariant
