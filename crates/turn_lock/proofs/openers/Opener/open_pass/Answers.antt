use Rattle.turn_lock.proofs.Passing.{opener_hired}
use Rattle.turn_lock.proofs.openers.Opener.open_pass.Goals as goal

pub invariant_of-self : goal.invariant_of-self
invariant_of-self g c = opener_hired c.self.inside.seat c.hire-seat.new.seat c.self.inside.next c.self.inside.gone c.self.invariant c.hire-seat.ensures.same.1
