use Rattle.std.proofs.Common.{◌∙◌, sym, arith}
use Rattle.drmaa_model.specs.Events.{is_started_from}
use Rattle.scheduler_core.proofs.BlockLaws.{rising-block}
use Rattle.scheduler_core.proofs.BlockSearches.{find-behind, find-here, find-none}
use Rattle.scheduler_core.proofs.running.first_in_blocks.Goals as goal

pub first_row-requires : goal.first_row-requires
first_row-requires c = record { rising = rising-block c.args.blocks.now c.loop-block.block-index c.block-item.result c.deref.result.now c.loop-block-test.true c.block-item.is c.deref.ensures.value c.requires.rising }

pub loop-block-preserved : goal.loop-block-preserved
loop-block-preserved c =
    c.loop-block.invariant
    ∙ find-behind (is_started_from c.args.from.0) c.args.blocks.now c.loop-block.block-index c.block-item.result c.deref.result.now c.loop-block-test.true c.block-item.is c.deref.ensures.value (sym (c.in_default.ensures {u = tt}))

pub returns-in-Some : goal.returns-in-Some
returns-in-Some c =
    sym (c.loop-block.invariant
    ∙ find-here (is_started_from c.args.from.0) c.args.blocks.now c.loop-block.block-index c.block-item.result c.deref.result.now c.loop-block-test.true c.block-item.is c.deref.ensures.value c.in-Some.row.now (sym (c.in-Some.ensures {u = tt})))

pub returns : goal.returns
returns c = sym (c.loop-block.invariant ∙ find-none (is_started_from c.args.from.0) c.args.blocks.now c.loop-block.block-index (omega (arith, c.loop-block-test.false)))
