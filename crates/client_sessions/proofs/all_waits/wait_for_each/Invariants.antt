use Rattle.std.proofs.Common.{drop}
use Rattle.call_history.specs.Clients.{IsStillAt}
use Rattle.call_history.specs.Clocks.{dial}
use Rattle.client_sessions.specs.AllWaits.{wait_for}
use Rattle.client_sessions.proofs.InTurn.{Left}
use Rattle.client_sessions.proofs.all_waits.wait_for_each.Given as goal

-- the desk has stayed, and what comes to the jobs that are left comes to all
abbrev pub invariant-loop-listed : goal.invariant-loop-listed
invariant-loop-listed g l = record {
  desk : IsStillAt l.fn.desk.shared.now l.fn.desk.client l.desk.shared.now l.desk.client;
  left : Left l.fn.desk.shared.now.fixed (wait_for l.session l.kind l.timeout)
      (dial (g.C.Clock.given l.fn.desk.clock) (g.C.Clock.least l.fn.desk.clock)) l.fn.desk.client l.jobs
      (dial (g.C.Clock.given l.desk.clock) (g.C.Clock.least l.desk.clock)) l.desk.client (drop l.listed-index l.jobs);
}
