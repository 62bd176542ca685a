use Rattle.std.proofs.Common.{◌≡◌, length}
use Rattle.continued_text.specs.Configs as configs
use Rattle.continued_text.proofs.configs.are_first.Given as goal

-- those that are left decide, and become fewer
abbrev pub invariant-loop-one : goal.invariant-loop-one
invariant-loop-one l = configs.are_first l.front l.rest ≡ configs.are_first l.some l.all

abbrev pub decreases-loop-one : goal.decreases-loop-one
decreases-loop-one l = length l.front
