use Rattle.turn_lock.proofs.Owners.{one_turn, one_owner, with_turn}
use Rattle.turn_lock.proofs.laws.no_two_turns.Goals as goal

pub returns-clause-turn : goal.returns-clause-turn
returns-clause-turn g c = one_turn g.V.Chronicle.entries g.V.Chronicle.fixed g.V.Chronicle.legal

pub returns-clause-ticket : goal.returns-clause-ticket
returns-clause-ticket g c = one_owner g.V.Chronicle.entries g.V.Chronicle.fixed g.V.Chronicle.legal

pub returns-clause-out : goal.returns-clause-out
returns-clause-out g c = with_turn g.V.Chronicle.entries g.V.Chronicle.fixed g.V.Chronicle.legal
