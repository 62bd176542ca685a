use Rattle.std.proofs.Common.{◌≡◌, ◌++◌, drop}
use Rattle.script_text.specs.Names.{is_there}
use Rattle.script_advice.specs.Warnings.{unwaited}
use Rattle.script_advice.proofs.finding.warn_unwaited.Given as goal

-- what was found so far, and what is left, are all of it
abbrev pub invariant-loop-i : goal.invariant-loop-i
invariant-loop-i l = l.found.items ++ unwaited l.fn.place (is_there l.awaited) (drop l.i l.block) ≡ l.initial.found.items ++ unwaited l.fn.place (is_there l.awaited) l.block
