use Rattle.std.proofs.Common.{◌≡◌, drop}
use Rattle.run_chart.specs.Scales.{rows_of_spans}
use Rattle.run_chart.proofs.scales.rows_of_spans.Given as goal

-- from here on the rest leads to what all lead to
abbrev pub invariant-loop-span : goal.invariant-loop-span
invariant-loop-span l = rows_of_spans l.most (drop l.span-index l.spans) ≡ rows_of_spans l.rows l.spans
