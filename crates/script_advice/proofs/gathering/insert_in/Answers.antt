use Rattle.std.proofs.Common.{◌<◌, ◌≤◌, length, arith}
use Rattle.script_advice.specs.Warnings.{names_at, names_in}
use Rattle.script_advice.specs.NameSetLaws.{first_left, fills_at_first, fills_more, fills_at_last}
use Rattle.script_advice.proofs.gathering.insert_in.Goals as goal

pub loop-i-init : goal.loop-i-init
loop-i-init c = fills_at_first c.args.names.now (names_in c.args.sort c.args.script.now c.args.block.now)

pub loop-i-preserved : goal.loop-i-preserved
loop-i-preserved c =
    let small : c.loop-i.i < length c.args.block.now = omega arith in
    let put = c.in_ok-insert_of.ensures in
    fills_more (names_at c.args.sort c.args.script.now) c.loop-i.i c.args.block.now put.0 c.args.names.now c.loop-i.names c.insert_of.new.names
    (names_in c.args.sort c.args.script.now c.args.block.now) small (first_left c.loop-i.i c.args.block.now put.0 put.1) c.loop-i.invariant
    put.2

pub returns : goal.returns
returns c =
    let past : length c.args.block.now ≤ c.loop-i.i = omega arith in
    fills_at_last (names_at c.args.sort c.args.script.now) c.loop-i.i c.args.block.now c.args.names.now c.loop-i.names
    (names_in c.args.sort c.args.script.now c.args.block.now) past c.loop-i.invariant
