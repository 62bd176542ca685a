use Rattle.std.proofs.Common.{◌≡◌, ◌≤◌, length}
use Rattle.thread_play.specs.Stages.{Hired}
use Rattle.thread_play.proofs.workers.hire.Given as goal

abbrev pub invariant-loop-place : goal.invariant-loop-place
invariant-loop-place g l = record {
  hired : Hired g.K.One.Clock.given l.shared l.fn.opener l.opener l.workers.items;
  count : length l.workers.items ≡ l.place;
  within : l.place ≤ length l.script.clients;
}
