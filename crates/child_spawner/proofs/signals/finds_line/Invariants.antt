use Rattle.child_spawner.specs.Deeds.{Misses}
use Rattle.child_spawner.proofs.signals.finds_line.Given as goal

-- each look so far showed something else
abbrev pub invariant-loop : goal.invariant-loop
invariant-loop g l = Misses l.fn.file l.fn.line l.counter (g.H.Host.told l.initial.host) (g.H.Host.told l.host)
