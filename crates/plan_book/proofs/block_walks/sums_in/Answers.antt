use Rattle.std.proofs.Common.{◌++◌, List, take, subst, sym, arith}
use Rattle.drmaa_model.specs.declared.rows.Row.{Row}
use Rattle.plan_book.specs.declared.sums.Sums.{Sums}
use Rattle.plan_book.specs.Blocks.{rows_in}
use Rattle.plan_book.specs.Sums.{AreSums}
use Rattle.plan_book.specs.BlockWalks.{front-more, front-whole}
use Rattle.plan_book.proofs.BlockRows.{front-few}
use Rattle.plan_book.proofs.SumLaws.{sums-append, sums-few}
use Rattle.plan_book.proofs.block_walks.sums_in.Goals as goal

pub with_others-sums-requires-clause-few : goal.with_others-sums-requires-clause-few
with_others-sums-requires-clause-few c =
    let bs = c.args.blocks.now in
    let i = c.loop-block.block-index in
    sums-few (rows_in (take i bs)) c.loop-block.sums (omega (arith, front-few bs i, c.requires.few)) c.loop-block.invariant

pub with_others-sums-requires-clause-few_others : goal.with_others-sums-requires-clause-few_others
with_others-sums-requires-clause-few_others c =
    let v = c.block-item.result in
    sums-few v.items c.sums_of.result (omega (arith, v.ok.0, v.ok.1, v.small)) (subst (λ (rows : List Row). AreSums rows c.sums_of.result) c.deref.ensures.value c.sums_of.ensures)

pub loop-block-preserved : goal.loop-block-preserved
loop-block-preserved c =
    let bs = c.args.blocks.now in
    let i = c.loop-block.block-index in
    let v = c.block-item.result in
    subst (λ (rows : List Row). AreSums rows c.with_others-sums.result) (sym (front-more bs i v c.loop-block-test.true c.block-item.is))
    (subst (λ (sums : Sums). AreSums (rows_in (take i bs) ++ v.items) sums) (sym c.with_others-sums.ensures)
    (sums-append (rows_in (take i bs)) v.items c.loop-block.sums c.sums_of.result c.loop-block.invariant (subst (λ (rows : List Row). AreSums rows c.sums_of.result) c.deref.ensures.value c.sums_of.ensures)))

pub returns : goal.returns
returns c = subst (λ (rows : List Row). AreSums rows c.loop-block.sums) (front-whole c.args.blocks.now c.loop-block.block-index (omega (arith, c.loop-block-test.false))) c.loop-block.invariant
