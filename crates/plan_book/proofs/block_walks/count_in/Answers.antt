use Rattle.std.proofs.Common.{List, take, length, length-append, ap, arith}
use Rattle.drmaa_model.specs.declared.rows.Row.{Row}
use Rattle.plan_book.specs.Blocks.{rows_in}
use Rattle.plan_book.specs.BlockWalks.{front-more, front-whole}
use Rattle.plan_book.proofs.BlockRows.{front-few}
use Rattle.plan_book.proofs.block_walks.count_in.Goals as goal

pub overflow_add-count : goal.overflow_add-count
overflow_add-count c =
    let v = c.block-item.result in
    omega (arith, c.loop-block.invariant, front-few c.args.blocks.now c.loop-block.block-index, c.requires.few, c.len.ensures, v.ok.0, v.ok.1, v.small)

pub loop-block-preserved : goal.loop-block-preserved
loop-block-preserved c =
    let bs = c.args.blocks.now in
    let i = c.loop-block.block-index in
    let v = c.block-item.result in
    let next = front-more bs i v c.loop-block-test.true c.block-item.is in
    omega (arith, c.loop-block.invariant, ap (λ (xs : List Row). length xs) next, length-append (rows_in (take i bs)) v.items, c.len.ensures, v.ok.0)

pub returns : goal.returns
returns c = omega (arith, c.loop-block.invariant, ap (λ (xs : List Row). length xs) (front-whole c.args.blocks.now c.loop-block.block-index (omega (arith, c.loop-block-test.false))))
