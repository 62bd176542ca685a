use Rattle.std.proofs.Common.{◌≡◌, ◌++◌, drop, string_bytes}
use Rattle.run_chart.specs.Drawing.{blocks_text}
use Rattle.run_chart.proofs.drawing.push_blocks.Given as goal

-- what was written so far, and what is left, is all that is written
abbrev pub invariant-loop-block : goal.invariant-loop-block
invariant-loop-block l = string_bytes l.out ++ blocks_text l.scale l.chart.blocks (drop l.block-index l.chart.blocks) ≡ string_bytes l.fn.out ++ blocks_text l.scale l.chart.blocks l.chart.blocks
