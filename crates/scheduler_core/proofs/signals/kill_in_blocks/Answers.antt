use Rattle.std.proofs.Common.{◌∙◌, ap, sym, arith}
use Rattle.std.specs.Option.{option_map}
use Rattle.drmaa_model.specs.Time.{kill_order}
use Rattle.plan_book.specs.Book.{plan_of}
use Rattle.scheduler_core.specs.Signals.{is_killed}
use Rattle.scheduler_core.proofs.BlockSearches.{find-behind, find-none, map-none, told-here}
use Rattle.scheduler_core.proofs.signals.kill_in_blocks.Goals as goal

pub loop-block-preserved : goal.loop-block-preserved
loop-block-preserved c =
    let test = is_killed c.args.at (plan_of c.args.book.now) in
    c.loop-block.invariant
    ∙ find-behind test c.args.blocks.now c.loop-block.block-index c.block-item.result c.deref.result.now c.loop-block-test.true c.block-item.is c.deref.ensures.value (map-none kill_order _ (c.in_default.ensures {u = tt}))

pub returns-in-Some : goal.returns-in-Some
returns-in-Some c =
    let test = is_killed c.args.at (plan_of c.args.book.now) in
    told-here test c.args.blocks.now c.loop-block.block-index c.block-item.result c.deref.result.now c.loop-block-test.true c.block-item.is c.deref.ensures.value kill_order c.in-Some.kill (c.in-Some.ensures {u = tt})
    ∙ ap (option_map kill_order) (sym c.loop-block.invariant)

pub returns : goal.returns
returns c =
    let test = is_killed c.args.at (plan_of c.args.book.now) in
    sym (ap (option_map kill_order) (c.loop-block.invariant ∙ find-none test c.args.blocks.now c.loop-block.block-index (omega (arith, c.loop-block-test.false))))
