use Rattle.std.proofs.Common.{◌≡◌, drop}
use Rattle.run_chart.specs.Scales.{last_from}
use Rattle.run_chart.proofs.scales.last_from.Given as goal

-- from here on the rest leads to what all lead to
abbrev pub invariant-loop-block : goal.invariant-loop-block
invariant-loop-block l = last_from l.last (drop l.block-index l.blocks) ≡ last_from l.fn.moment l.blocks
