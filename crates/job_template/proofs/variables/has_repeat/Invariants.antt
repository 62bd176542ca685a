use Rattle.std.proofs.Common.{◌≡◌, length}
use Rattle.job_template.specs.Texts.{has_repeat, names_of}
use Rattle.job_template.proofs.variables.has_repeat.Given as goal

-- those that are left decide, and become fewer
abbrev pub invariant-loop-first : goal.invariant-loop-first
invariant-loop-first l = has_repeat (names_of l.rest) ≡ has_repeat (names_of l.pairs)

abbrev pub decreases-loop-first : goal.decreases-loop-first
decreases-loop-first l = length l.rest
