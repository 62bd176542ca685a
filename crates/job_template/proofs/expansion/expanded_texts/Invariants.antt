use Rattle.std.proofs.Common.{◌≡◌, map, drop, ◌++◌}
use Rattle.job_template.specs.Expand.{replaced}
use Rattle.job_template.proofs.expansion.expanded_texts.Given as goal

-- with the texts that are left it is all of them
abbrev pub invariant-loop-text : goal.invariant-loop-text
invariant-loop-text l =
    l.copy.items ++ map (replaced l.digits 0) (drop l.text-index l.text-items) ≡ map (replaced l.digits 0) l.texts
