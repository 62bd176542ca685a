use Rattle.std.proofs.Common.{◌≤◌}
use Rattle.drmaa.specs.Crews.{AreOpened}
use Rattle.drmaa.proofs.seats.open_desks.Given as goal

-- so many are open
abbrev pub invariant-loop-place : goal.invariant-loop-place
invariant-loop-place g l = record {
  opened : AreOpened g.K.One.Clock.given l.shared l.opener l.place l.desks.items;
  least : 1 ≤ l.place;
  within : l.place ≤ l.clients;
}
