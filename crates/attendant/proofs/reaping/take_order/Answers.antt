use Rattle.attendant.specs.PairLaws.{post-itself}
use Rattle.attendant.proofs.reaping.take_order.Goals as goal
use Rattle.attendant.proofs.reaping.take_order.Goals.{then-is_none+in_ok-signal+in-Some, then-is_none+in_ok-signal+in_default, else-is_none}

pub returns-clause-desk : goal.returns-clause-desk
returns-clause-desk g c = elim c.if-is_none.branch [
  | then-is_none+in_ok-signal+in-Some w ↦ rw w.desk-is w.take_signal.ensures.desk
  | then-is_none+in_ok-signal+in_default w ↦ rw w.desk-is w.take_signal.ensures.desk
  | else-is_none w ↦ rw w.desk-is (post-itself _ c.requires)
]
