use Rattle.script_advice.specs.Warnings.{names_in, names_of_all}
use Rattle.script_advice.specs.NameSetLaws.{fills_at_first, fills_more, fills_at_last}
use Rattle.script_advice.proofs.gathering.insert_of_all.Goals as goal

pub loop-block-init : goal.loop-block-init
loop-block-init c = fills_at_first c.args.names.now (names_of_all c.args.sort c.args.script.now c.args.blocks.now)

pub loop-block-preserved : goal.loop-block-preserved
loop-block-preserved c =
    fills_more (names_in c.args.sort c.args.script.now) c.loop-block.block-index c.args.blocks.now c.block-item.result c.args.names.now c.loop-block.names c.insert_in.new.names
    (names_of_all c.args.sort c.args.script.now c.args.blocks.now) c.loop-block-test.true c.block-item.is c.loop-block.invariant c.in_ok-insert_in.ensures

pub returns : goal.returns
returns c =
    fills_at_last (names_in c.args.sort c.args.script.now) c.loop-block.block-index c.args.blocks.now c.args.names.now c.loop-block.names
    (names_of_all c.args.sort c.args.script.now c.args.blocks.now) c.loop-block-test.false c.loop-block.invariant
