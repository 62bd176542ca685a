use Rattle.std.proofs.Common.{◌≡◌, ◌∙◌, ◌+◌, ◌++◌, ℕ, List, drop, sum_by, ap, sym, arith}
use Rattle.std.proofs.lemmas.List.Sums.{sum_by-append}
use Rattle.drmaa_model.specs.declared.rows.Row.{Row}
use Rattle.plan_book.specs.BlockWalks.{back-more, back-none}
use Rattle.plan_book.specs.Blocks.{rows_in}
use Rattle.wait_reasons.specs.Sums.{adds, sum_of}
use Rattle.wait_reasons.proofs.sums.sum_in.Goals as goal
use Rattle.wait_reasons.proofs.sums.sum_in.Goals.{After-deref}

-- the sum of a block and those behind it
more : (c : After-deref) → sum_of c.args.share (rows_in (drop c.loop-block.block-index c.args.blocks.now))
    ≡ sum_of c.args.share c.deref.result.now + sum_of c.args.share (rows_in (drop (c.loop-block.block-index + 1) c.args.blocks.now))
more c =
    let bs = c.args.blocks.now in
    let i = c.loop-block.block-index in
    let rest = rows_in (drop (i + 1) bs) in
    ap (sum_of c.args.share) (back-more bs i c.block-item.result c.loop-block-test.true c.block-item.is ∙ ap (λ (rows : List Row). rows ++ rest) (sym c.deref.ensures.value))
    ∙ sum_by-append (adds c.args.share) c.deref.result.now rest

pub sum_of-sum-requires : goal.sum_of-sum-requires
sum_of-sum-requires c = omega (arith, more (goal.at.sum_of-sum-requires c).After-deref, c.loop-block.invariant, c.requires)

pub overflow_add-sum : goal.overflow_add-sum
overflow_add-sum c = omega (arith, c.loop-block.invariant, c.requires, c.sum_of-sum.ensures, more (goal.at.overflow_add-sum c).After-deref)

pub loop-block-preserved : goal.loop-block-preserved
loop-block-preserved c = omega (arith, c.loop-block.invariant, c.sum_of-sum.ensures, more (goal.at.loop-block-preserved c).After-deref)

pub returns : goal.returns
returns c = omega (arith, c.loop-block.invariant, ap (sum_of c.args.share) (back-none c.args.blocks.now c.loop-block.block-index (omega (arith, c.loop-block-test.false))))
