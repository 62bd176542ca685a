use Rattle.std.proofs.Common.{◌≡◌, ◌≤◌, ◌+◌, ◌++◌, length, map}
use Rattle.std.specs.Prelude.{vec_len, vec_capacity}
use Rattle.std.specs.Vec.Iter.{into_iter_items, into_iter_len}
use Rattle.thread_play.proofs.Clients.{Going}
use Rattle.thread_play.proofs.ends.dismiss.Given as goal

abbrev pub invariant-loop-worker : goal.invariant-loop-worker
invariant-loop-worker g l =
    (goal.iterator-loop-worker g).can_next l.worker-iterator ×
    (goal.iterator-loop-worker g).is_finite l.worker-iterator
    × (length (into_iter_items l.worker-iterator) ≡ into_iter_len l.worker-iterator)
    × Going l.shared l.fn.opener l.opener l.fn.launcher l.launcher l.fn.workers.items (into_iter_items l.worker-iterator) l.fn.ended l.ended
    × (l.clocks.items ++ map (λ w. w.clock) (into_iter_items l.worker-iterator) ≡ l.fn.clocks.items ++ map (λ w. w.clock) l.fn.workers.items)
    × (vec_len l.clocks + length (into_iter_items l.worker-iterator) ≤ vec_capacity l.clocks)
    × (vec_capacity l.clocks ≡ vec_capacity l.fn.clocks)
