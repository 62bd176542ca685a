use Rattle.beside_clients.proofs.Keeping.{goes-none, goes-both}
use Rattle.beside_clients.proofs.hub_clients.follow.Goals as goal

pub loop-init : goal.loop-init
loop-init g c = record {
  on = goes-none g.B.Callback.counted g.B.Callback.told c.args.shared.now c.args.hub.now c.args.hub_seat.now.client c.requires.client c.requires.note;
  timed = λ caller t. t;
}

pub pump_once-requires-clause-client : goal.pump_once-requires-clause-client
pump_once-requires-clause-client g c = c.loop.invariant.on.still.client

pub pump_once-requires-clause-note : goal.pump_once-requires-clause-note
pump_once-requires-clause-note g c = c.loop.invariant.on.note

pub loop-preserved : goal.loop-preserved
loop-preserved g c = record {
  on =
      goes-both g.B.Callback.counted g.B.Callback.told c.args.shared.now c.args.hub.now c.loop.hub c.pump_once.new.hub c.args.hub_seat.now.client c.loop.hub_seat.client c.pump_once.new.hub_seat.client c.loop.invariant.on c.pump_once.ensures.on;
  timed = λ caller t. c.pump_once.ensures.timed caller (c.loop.invariant.timed caller t);
}

pub returns-then-clients_over : goal.returns-then-clients_over
returns-then-clients_over g c = record {
  on =
      goes-both g.B.Callback.counted g.B.Callback.told c.args.shared.now c.args.hub.now c.loop.hub c.pump_once.new.hub c.args.hub_seat.now.client c.loop.hub_seat.client c.pump_once.new.hub_seat.client c.loop.invariant.on c.pump_once.ensures.on;
  timed = record { timed = λ caller t. c.pump_once.ensures.timed caller (c.loop.invariant.timed caller t) };
}
