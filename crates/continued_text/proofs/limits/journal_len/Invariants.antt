use Rattle.std.proofs.Common.{length}
use Rattle.continued_text.proofs.Steps.{Progress}
use Rattle.continued_text.proofs.limits.journal_len.Given as goal

-- no line so far ends a journal, and those that are left become fewer
abbrev pub invariant-loop-line : goal.invariant-loop-line
invariant-loop-line l = Progress l.bytes l.rest

abbrev pub decreases-loop-line : goal.decreases-loop-line
decreases-loop-line l = length l.rest
