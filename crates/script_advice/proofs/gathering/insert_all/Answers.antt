use Rattle.std.specs.List.{flat_map}
use Rattle.script_advice.specs.Roles.{named}
use Rattle.script_advice.specs.NameSetLaws.{fills_at_first, fills_more, fills_at_last}
use Rattle.script_advice.proofs.gathering.insert_all.Goals as goal

pub loop-reference-init : goal.loop-reference-init
loop-reference-init c = fills_at_first c.args.names.now (flat_map named c.args.references.now)

pub loop-reference-preserved : goal.loop-reference-preserved
loop-reference-preserved c =
    fills_more named c.loop-reference.reference-index c.args.references.now c.reference-item.result c.args.names.now c.loop-reference.names c.insert_named.new.names
    (flat_map named c.args.references.now) c.loop-reference-test.true c.reference-item.is c.loop-reference.invariant c.in_ok-insert_named.ensures

pub returns : goal.returns
returns c =
    fills_at_last named c.loop-reference.reference-index c.args.references.now c.args.names.now c.loop-reference.names (flat_map named c.args.references.now)
    c.loop-reference-test.false c.loop-reference.invariant
