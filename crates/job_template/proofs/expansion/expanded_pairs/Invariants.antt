use Rattle.std.proofs.Common.{◌≡◌, map, drop, ◌++◌}
use Rattle.job_template.specs.Expand.{replaced, with_value}
use Rattle.job_template.proofs.expansion.expanded_pairs.Given as goal

-- with the pairs that are left it is all of them
abbrev pub invariant-loop-pair : goal.invariant-loop-pair
invariant-loop-pair l =
    l.copy.items ++ map (with_value (replaced l.digits 0)) (drop l.pair-index l.pair-items) ≡ map (with_value (replaced l.digits 0)) l.pairs
