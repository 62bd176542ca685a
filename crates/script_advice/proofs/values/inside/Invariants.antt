use Rattle.std.proofs.Common.{length}
use Rattle.script_advice.proofs.values.inside.Given as goal

abbrev pub decreases-loop-len : goal.decreases-loop-len
decreases-loop-len l = length l.rest
