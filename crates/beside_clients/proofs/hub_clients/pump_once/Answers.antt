use Rattle.call_history.specs.Clients.{seen_of}
use Rattle.change_callbacks.specs.PlaceLaws.{countable}
use Rattle.beside_clients.proofs.hub_clients.pump_once.Goals as goal

pub returns-clause-follows : goal.returns-clause-follows
returns-clause-follows g c = record {
  note = c.pump.ensures.note;
  follows = c.pump.ensures.follows;
  handed = c.pump.ensures.all (countable c.args.shared.now.fixed (seen_of c.pump.new.client) c.pump.ensures.legal c.requires.size);
}
