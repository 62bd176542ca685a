use Rattle.std.proofs.Common.{◌≡◌, drop}
use Rattle.journal_json.specs.Documents.{queues_data}
use Rattle.journal_json.specs.DocumentLaws.{joined}
use Rattle.journal_json.proofs.machines.queue_values.Given as goal

-- the values so far and those of the queues left are all of them
abbrev pub invariant-loop-queue : goal.invariant-loop-queue
invariant-loop-queue l = joined l.values.items (queues_data (drop l.queue-index l.queues)) ≡ queues_data l.queues
