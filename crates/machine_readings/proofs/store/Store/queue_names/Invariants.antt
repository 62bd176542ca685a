use Rattle.std.proofs.Common.{◌≡◌, ◌++◌, map, drop}
use Rattle.drmaa_types.specs.declared.queues.QueueSpec.{QueueSpec}
use Rattle.drmaa_model.specs.Infos.{queue_names}
use Rattle.machine_readings.proofs.store.Store.queue_names.Given as goal

-- with the names of those that are left it is all of them
abbrev pub invariant-loop-queue : goal.invariant-loop-queue
invariant-loop-queue l = l.names.items ++ map (λ (queue : QueueSpec). queue.name) (drop l.queue-index l.queues) ≡ queue_names l.queues
