use Rattle.call_history.specs.Clients.{seen_of}
use Rattle.call_history.specs.Clocks.{dial}
use Rattle.notify_hub.proofs.Looking.{SoFar}
use Rattle.notify_hub.proofs.Pumping.{Handing}
use Rattle.notify_hub.proofs.hub.hand_all.Given as goal

abbrev pub invariant-loop : goal.invariant-loop
invariant-loop g l =
    SoFar l.fn.shared (dial (g.C.Clock.given l.fn.clock) (g.C.Clock.least l.fn.clock)) l.fn.client (dial (g.C.Clock.given l.clock) (g.C.Clock.least l.clock)) l.client
    × Handing g.B.Callback.counted g.B.Callback.told l.fn.shared.fixed l.fn.ears l.ears (seen_of l.client) l.handed l.calls
