use Rattle.std.proofs.Common.{◌≡◌, drop}
use Rattle.std.specs.List.{list_any}
use Rattle.drmaa_types.specs.Queues as form
use Rattle.drmaa_types.proofs.queues.is_named.Given as goal

-- those that are left decide
abbrev pub invariant-loop-queue : goal.invariant-loop-queue
invariant-loop-queue l = list_any (form.is_named l.name) (drop l.queue-index l.queues) ≡ list_any (form.is_named l.name) l.queues
