use Rattle.std.proofs.Common.{◌≡◌, drop}
use Rattle.std.specs.List.{list_all}
use Rattle.drmaa_types.specs.Queues.{is_queue}
use Rattle.drmaa_types.proofs.queues.is_each_queue.Given as goal

-- those that are left decide
abbrev pub invariant-loop-queue : goal.invariant-loop-queue
invariant-loop-queue l = list_all (is_queue l.slots) (drop l.queue-index l.queues) ≡ list_all (is_queue l.slots) l.queues
