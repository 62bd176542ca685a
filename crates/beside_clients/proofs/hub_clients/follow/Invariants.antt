use Rattle.call_history.specs.Clients.{mine_of}
use Rattle.call_history.specs.Timed.{StaysTimed}
use Rattle.beside_clients.specs.HubClients.{GoesOn}
use Rattle.beside_clients.proofs.hub_clients.follow.Given as goal

-- so far no callback is lost, and the client made no entry
abbrev pub invariant-loop : goal.invariant-loop
invariant-loop g l = record {
  on : GoesOn g.B.Callback.counted g.B.Callback.told l.fn.shared l.fn.hub l.fn.hub_seat.client l.hub l.hub_seat.client;
  timed : StaysTimed (mine_of l.fn.hub_seat.client) (g.C.Clock.given l.fn.hub_seat.clock) (mine_of l.hub_seat.client) (g.C.Clock.given l.hub_seat.clock);
}
