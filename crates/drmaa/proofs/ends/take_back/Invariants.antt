use Rattle.std.proofs.Common.{◌≡◌, length}
use Rattle.std.specs.Vec.Iter.{into_iter_items, into_iter_len}
use Rattle.drmaa.proofs.Back.{TakingBack}
use Rattle.drmaa.proofs.ends.take_back.Given as goal

-- some are back, and the others are still out
abbrev pub invariant-loop-desk : goal.invariant-loop-desk
invariant-loop-desk g l =
    (goal.iterator-loop-desk g).can_next l.desk-iterator ×
    (goal.iterator-loop-desk g).is_finite l.desk-iterator
    × (length (into_iter_items l.desk-iterator) ≡ into_iter_len l.desk-iterator)
    × TakingBack l.shared l.fn.opener l.opener l.fn.launcher l.launcher l.fn.desks.items (into_iter_items l.desk-iterator)
