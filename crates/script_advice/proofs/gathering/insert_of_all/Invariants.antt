use Rattle.std.proofs.Common.{drop}
use Rattle.script_advice.specs.NameSets.{Fills}
use Rattle.script_advice.specs.Warnings.{names_of_all}
use Rattle.script_advice.proofs.gathering.insert_of_all.Given as goal

-- the names so far, and those that are left, are all of them
abbrev pub invariant-loop-block : goal.invariant-loop-block
invariant-loop-block l = Fills l.initial.names l.names (names_of_all l.fn.sort l.script (drop l.block-index l.blocks)) (names_of_all l.fn.sort l.script l.blocks)
