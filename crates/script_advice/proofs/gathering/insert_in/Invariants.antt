use Rattle.std.proofs.Common.{drop}
use Rattle.script_advice.specs.NameSets.{Fills}
use Rattle.script_advice.specs.Warnings.{names_in}
use Rattle.script_advice.proofs.gathering.insert_in.Given as goal

-- the names so far, and those that are left, are all of them
abbrev pub invariant-loop-i : goal.invariant-loop-i
invariant-loop-i l = Fills l.initial.names l.names (names_in l.fn.sort l.script (drop l.i l.block)) (names_in l.fn.sort l.script l.block)
