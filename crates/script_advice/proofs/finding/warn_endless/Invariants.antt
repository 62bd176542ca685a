use Rattle.std.proofs.Common.{◌≡◌, ◌++◌, take, drop, []}
use Rattle.script_advice.specs.Holds.{AreHolds}
use Rattle.script_advice.specs.Warnings.{endless}
use Rattle.script_advice.proofs.finding.warn_endless.Given as goal

-- what was found so far, and what is left, are all of it; and what the lines so far hold is known
abbrev pub invariant-loop-i : goal.invariant-loop-i
invariant-loop-i l = record {
  found : l.found.items ++ endless l.fn.place l.script (take l.i l.block) (drop l.i l.block) ≡ l.initial.found.items ++ endless l.fn.place l.script [] l.block;
  holds : AreHolds l.script (take l.i l.block) l.earlier;
}
