use Rattle.std.proofs.Common.{◌≤◌}
use Rattle.drmaa.specs.Hubs.{HaveRegistered}
use Rattle.drmaa.proofs.hub_clients.register_all.Given as goal

-- so many are registered
abbrev pub invariant-loop-place : goal.invariant-loop-place
invariant-loop-place g l = record {
  so : HaveRegistered g.B.Callback.counted g.B.Callback.told l.shared l.fn.hub l.fn.hub_seat.client l.place l.hub l.hub_seat.client;
  within : l.place ≤ l.count;
}
