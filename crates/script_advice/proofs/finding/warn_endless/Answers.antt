use Rattle.std.proofs.Common.{◌<◌, ◌++◌, [], length, take, ap, ◌∙◌, arith}
use Rattle.script_advice.specs.Roles.{role}
use Rattle.script_advice.specs.Warnings.{endless, endless_at}
use Rattle.script_advice.specs.NameSetLaws.{first_left}
use Rattle.script_advice.specs.WarningLaws.{endless_more, holds_next, same_stays}
use Rattle.script_advice.proofs.finding.warn_endless.Goals as goal

pub loop-i-preserved : goal.loop-i-preserved
loop-i-preserved c =
    let small : c.loop-i.i < length c.args.block.now = omega arith in
    let passed = c.in_ok-warn_then_hold_in.ensures in
    let here = first_left c.loop-i.i c.args.block.now passed.0 passed.1 in
    record {
      found = endless_more c.args.place c.args.script.now c.loop-i.i c.args.block.now passed.0 c.loop-i.found.items c.warn_then_hold_in.new.found.items
          (c.args.found.now.items ++ endless c.args.place c.args.script.now [] c.args.block.now) small here
          (passed.2.found
          ∙ ap (λ t. c.loop-i.found.items ++ endless_at c.args.place t (role passed.0))
          (same_stays c.args.script.now (take c.loop-i.i c.args.block.now) c.loop-i.earlier c.args.of_setup.now c.loop-i.invariant.holds c.requires))
          c.loop-i.invariant.found;
      holds = holds_next c.args.script.now c.loop-i.i c.args.block.now passed.0 c.loop-i.earlier _ small here c.loop-i.invariant.holds passed.2.held passed.2.let_go;
    }
