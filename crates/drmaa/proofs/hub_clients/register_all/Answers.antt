use Rattle.std.proofs.Common.{refl, arith, rules}
use Rattle.drmaa.proofs.Registering.{registered-none, registered-more}
use Rattle.drmaa.proofs.hub_clients.register_all.Goals as goal

pub loop-place-init : goal.loop-place-init
loop-place-init g c = record {
  so = registered-none g.B.Callback.counted g.B.Callback.told c.args.shared.now c.args.hub.now c.args.hub_seat.now.client c.requires.client c.requires.own c.requires.new c.requires.note;
  within = omega arith;
}

pub loop-place-preserved : goal.loop-place-preserved
loop-place-preserved g c = record {
  so = registered-more g.B.Callback.counted g.B.Callback.told c.args.shared.now c.args.hub.now c.loop-place.hub c.register_number.new.hub c.args.hub_seat.now.client c.loop-place.hub_seat.client c.register_number.new.hub_seat.client
      c.loop-place.place _ refl c.loop-place.invariant.so c.in_ok-register_number.ensures.ok;
  within = search rules;
}
