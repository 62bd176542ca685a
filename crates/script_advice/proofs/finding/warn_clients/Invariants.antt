use Rattle.std.proofs.Common.{◌≡◌, ◌++◌, ◌+◌, drop}
use Rattle.script_advice.specs.Warnings.{of_clients}
use Rattle.script_advice.proofs.finding.warn_clients.Given as goal

-- what was found so far, and what is left, are all of it
abbrev pub invariant-loop-i : goal.invariant-loop-i
invariant-loop-i l = l.found.items ++ of_clients l.script (l.i + 1) (drop l.i l.script.clients) ≡ l.initial.found.items ++ of_clients l.script 1 l.script.clients
