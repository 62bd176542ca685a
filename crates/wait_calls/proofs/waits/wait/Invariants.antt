use Rattle.std.proofs.Common.{◌≡◌}
use Rattle.drmaa_machine.specs.Waits.{call_of}
use Rattle.turn_lock.specs.Tokens.{IsFree}
use Rattle.call_history.specs.Clients.{number_of}
use Rattle.call_history.specs.Clocks.{dial}
use Rattle.wait_calls.proofs.Waiting.{SoFar}
use Rattle.wait_calls.proofs.waits.wait.Given as goal

abbrev pub invariant-loop : goal.invariant-loop
invariant-loop g l =
    SoFar l.fn.desk.shared.now.fixed (dial (g.C.Clock.given l.fn.desk.clock) (g.C.Clock.least l.fn.desk.clock)) l.fn.desk.client
    (call_of l.awaited) l.awaited.begun (dial (g.C.Clock.given l.desk.clock) (g.C.Clock.least l.desk.clock)) l.desk.client
    × (l.awaited ≡ record { session = l.fn.session; jobs = l.fn.jobs; kind = l.fn.kind; begun = l.awaited.begun; timeout = l.fn.timeout })
    × (l.desk.shared.now ≡ l.fn.desk.shared.now)
    × IsFree l.fn.desk.shared.now l.desk.client
    × (number_of l.desk.client ≡ number_of l.fn.desk.client)
