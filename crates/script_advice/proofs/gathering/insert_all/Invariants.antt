use Rattle.std.proofs.Common.{drop}
use Rattle.std.specs.List.{flat_map}
use Rattle.script_advice.specs.NameSets.{Fills}
use Rattle.script_advice.specs.Roles.{named}
use Rattle.script_advice.proofs.gathering.insert_all.Given as goal

-- the names so far, and those that are left, are all of them
abbrev pub invariant-loop-reference : goal.invariant-loop-reference
invariant-loop-reference l = Fills l.initial.names l.names (flat_map named (drop l.reference-index l.references)) (flat_map named l.references)
