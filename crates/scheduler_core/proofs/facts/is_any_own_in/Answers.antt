use Rattle.std.proofs.Common.{◌∙◌, ◌+◌, ◌||◌, Bool, drop, ap, sym, arith}
use Rattle.std.specs.List.{list_any}
use Rattle.plan_book.specs.Blocks.{rows_in}
use Rattle.scheduler_core.specs.Facts.{is_own_member}
use Rattle.scheduler_core.proofs.BlockSearches.{any-more, any-none}
use Rattle.scheduler_core.proofs.facts.is_any_own_in.Goals as goal

pub loop-block-preserved : goal.loop-block-preserved
loop-block-preserved c =
    let test = is_own_member c.args.home c.args.array in
    let bs = c.args.blocks.now in
    let i = c.loop-block.block-index in
    c.loop-block.invariant ∙ any-more test bs i c.block-item.result c.deref.result.now c.loop-block-test.true c.block-item.is c.deref.ensures.value
    ∙ ap (λ (b : Bool). b || list_any test (rows_in (drop (i + 1) bs))) (sym c.is_any_own.ensures ∙ c.if-is_any_own.false)

pub returns-then-is_any_own : goal.returns-then-is_any_own
returns-then-is_any_own c =
    let test = is_own_member c.args.home c.args.array in
    let bs = c.args.blocks.now in
    let i = c.loop-block.block-index in
    sym (c.loop-block.invariant ∙ any-more test bs i c.block-item.result c.deref.result.now c.loop-block-test.true c.block-item.is c.deref.ensures.value
    ∙ ap (λ (b : Bool). b || list_any test (rows_in (drop (i + 1) bs))) (sym c.is_any_own.ensures ∙ c.if-is_any_own.true))

pub returns : goal.returns
returns c = sym (c.loop-block.invariant ∙ any-none (is_own_member c.args.home c.args.array) c.args.blocks.now c.loop-block.block-index (omega (arith, c.loop-block-test.false)))
