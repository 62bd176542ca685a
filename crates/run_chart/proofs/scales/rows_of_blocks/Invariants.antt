use Rattle.std.proofs.Common.{◌≡◌, drop}
use Rattle.run_chart.specs.Scales.{rows_of_blocks}
use Rattle.run_chart.proofs.scales.rows_of_blocks.Given as goal

-- from here on the rest leads to what all lead to
abbrev pub invariant-loop-block : goal.invariant-loop-block
invariant-loop-block l = rows_of_blocks l.most (drop l.block-index l.blocks) ≡ rows_of_blocks l.rows l.blocks
