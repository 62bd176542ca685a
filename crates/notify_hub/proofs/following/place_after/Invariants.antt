use Rattle.std.proofs.Common.{◌≤◌, length}
use Rattle.call_history.specs.Clients.{seen_of}
use Rattle.call_history.specs.Clocks.{dial}
use Rattle.change_callbacks.specs.Places.{changes_of}
use Rattle.notify_hub.proofs.Looking.{SoFar}
use Rattle.notify_hub.proofs.following.place_after.Given as goal

abbrev pub invariant-loop : goal.invariant-loop
invariant-loop g l =
    SoFar l.fn.shared (dial (g.C.Clock.given l.fn.clock) (g.C.Clock.least l.fn.clock)) l.fn.client (dial (g.C.Clock.given l.clock) (g.C.Clock.least l.clock)) l.client
    × (l.place ≤ length (changes_of l.fn.shared.fixed (seen_of l.fn.client)))
