use Rattle.std.proofs.Common.{◌≡◌, ℕ, ◌-◌, ◌^◌, min, None, IfSome}
use Rattle.slab.specs.Slab.{get}
use Rattle.attendant.specs.Acts.{own_acts}
use Rattle.attendant.specs.Posts.{post, IsStillAt}
use Rattle.attendant.specs.Outside.{Polling}
use Rattle.attendant.specs.Rounds.{PollsPlaces, LosesEnd, ReportsEach}
use Rattle.attendant.proofs.reaping.poll_all.Given as goal

abbrev pub invariant-loop-key : goal.invariant-loop-key
invariant-loop-key g l = record {
  desk : IsStillAt (post g.C.Clock.given g.C.Clock.least l.fn.desk) (post g.C.Clock.given g.C.Clock.least l.desk);
  polling : Polling g.T.Child.told (own_acts l.fn.desk.client) (own_acts l.desk.client) (get l.fn.reaper.children) (get l.reaper.children) l.fn.reaper.order l.reaper.order;
  count : ℕ;
  places : PollsPlaces g.T.Child.told g.T.Child.faults 0 l.key (own_acts l.fn.desk.client) (own_acts l.desk.client) (get l.fn.reaper.children) (get l.reaper.children) l.fn.reaper.order l.reaper.order count (l.refused ≡ None);
  lost : IfSome l.refused (LosesEnd g.T.Child.told g.T.Child.faults (post g.C.Clock.given g.C.Clock.least l.fn.desk) (post g.C.Clock.given g.C.Clock.least l.desk) (get l.fn.reaper.children) (get l.reaper.children));
  counted : l.reports ≡ min count (2 ^ 32 - 1);
  all : ReportsEach g.T.Child.told g.T.Child.faults (post g.C.Clock.given g.C.Clock.least l.fn.desk) (post g.C.Clock.given g.C.Clock.least l.desk) (get l.fn.reaper.children) (get l.reaper.children) places.added;
}
