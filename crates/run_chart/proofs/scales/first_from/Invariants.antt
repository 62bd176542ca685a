use Rattle.std.proofs.Common.{◌≡◌, drop}
use Rattle.run_chart.specs.Scales.{first_from}
use Rattle.run_chart.proofs.scales.first_from.Given as goal

-- from here on the rest leads to what all lead to
abbrev pub invariant-loop-block : goal.invariant-loop-block
invariant-loop-block l = first_from l.first (drop l.block-index l.blocks) ≡ first_from l.fn.moment l.blocks
