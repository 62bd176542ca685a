use Rattle.std.proofs.Common.{◌≡◌, length}
use Rattle.drmaa_types.specs.Queues as form
use Rattle.drmaa_types.proofs.queues.are_distinct.Given as goal

-- those that are left decide, and become fewer
abbrev pub invariant-loop-first : goal.invariant-loop-first
invariant-loop-first l = form.are_distinct l.rest ≡ form.are_distinct l.queues

abbrev pub decreases-loop-first : goal.decreases-loop-first
decreases-loop-first l = length l.rest
