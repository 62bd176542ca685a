use Rattle.std.proofs.Common.{None}
use Rattle.slab.specs.Slab.{get}
use Rattle.attendant.specs.Acts.{own_acts}
use Rattle.attendant.specs.Posts.{post, IsStillAt}
use Rattle.attendant.specs.Loops.{stage}
use Rattle.attendant.specs.Outside.{Attending}
use Rattle.attendant.proofs.Firsts.{Stands}
use Rattle.attendant.proofs.attending.finish.Given as goal

abbrev pub invariant-loop : goal.invariant-loop
invariant-loop g l = record {
  launcher : IsStillAt (post g.C.Clock.given g.C.Clock.least l.fn.launcher) (post g.C.Clock.given g.C.Clock.least l.launcher);
  reaping : IsStillAt (post g.C.Clock.given g.C.Clock.least l.fn.reaping) (post g.C.Clock.given g.C.Clock.least l.reaping);
  attending : Attending g.S.One.Child.told (g.S.Spawner.asked l.fn.spawner) (g.S.Spawner.asked l.spawner) (g.S.Spawner.fate l.fn.spawner) (g.S.Spawner.fate l.spawner)
      (own_acts l.fn.launcher.client) (own_acts l.launcher.client) (own_acts l.fn.reaping.client) (own_acts l.reaping.client)
      (get l.fn.reaper.children) (get l.reaper.children) l.fn.reaper.order l.reaper.order (Unit {0});
  rounds : Stands g.S.One.Child.told g.S.One.Child.faults (stage (post g.C.Clock.given g.C.Clock.least l.fn.launcher) (post g.C.Clock.given g.C.Clock.least l.fn.reaping) (g.S.Spawner.asked l.fn.spawner) (g.S.Spawner.fate l.fn.spawner) l.fn.reaper.children l.fn.reaper.order)
      (stage (post g.C.Clock.given g.C.Clock.least l.launcher) (post g.C.Clock.given g.C.Clock.least l.reaping) (g.S.Spawner.asked l.spawner) (g.S.Spawner.fate l.spawner) l.reaper.children l.reaper.order) None;
}
