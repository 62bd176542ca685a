use Rattle.std.proofs.Common.{◌∙◌}
use Rattle.turn_lock.proofs.Passing.{took_back}
use Rattle.turn_lock.proofs.openers.Opener.retire.Goals as goal

pub returns-clause-retires : goal.returns-clause-retires
returns-clause-retires g c =
    let took = took_back g.V.Chronicle.legal c.self.inside.seat c.retire.new.seat c.into_seat.result c.look.new.seat c.self.inside.next c.self.inside.gone c.look.result c.self.invariant c.retire.ensures.1 c.look.ensures.looks in
    rw (← c.self.view_is, ← c.into_seat.ensures.same.1) record {
      lock = c.look.ensures.same ∙ c.retire.ensures.0;
      view = took.view;
      from_old = took.from_old;
      from_pass = took.from_pass;
      given = took.empty.within;
      was_out = took.empty.empty;
      own = c.into_seat.ensures.pass.1.own;
      clean = took.opener.clean;
    }
