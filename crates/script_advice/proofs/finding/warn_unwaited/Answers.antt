use Rattle.std.proofs.Common.{◌∙◌}
use Rattle.script_advice.proofs.finding.warn_unwaited.Goals as goal

pub loop-i-preserved : goal.loop-i-preserved
loop-i-preserved c = c.in_ok-warn_unwaited_in.ensures ∙ c.loop-i.invariant
