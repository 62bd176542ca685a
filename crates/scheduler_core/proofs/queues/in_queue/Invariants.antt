use Rattle.std.proofs.Common.{◌≡◌, take}
use Rattle.drmaa_model.specs.Load.{in_queue}
use Rattle.scheduler_core.proofs.queues.in_queue.Given as goal

abbrev pub invariant-loop-row : goal.invariant-loop-row
invariant-loop-row l = l.sum ≡ in_queue l.place (take l.row-index l.rows)
