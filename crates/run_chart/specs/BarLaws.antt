-- The laws of bars.
use Rattle.std.proofs.Common.{◌≡◌, ℕ, drop, map, List, [], ◌∷◌, refl, ap}
use Rattle.run_views.specs.declared.runs.Run.{Run}
use Rattle.run_chart.specs.declared.bars.Bar.{Bar}
use Rattle.run_chart.specs.declared.lanes.Span.{Span}
use Rattle.run_chart.specs.Bars.{placed, plain, plain_bar}

-- lanes apart, there is a bar for each run, whatever lanes there are
pub placed_runs : (now : ℕ) (runs : List Run) (lanes : List (List Span)) → map plain (placed now runs lanes) ≡ map (plain_bar now) runs
placed_runs now [] lanes = refl
placed_runs now (run ∷ runs) lanes = ap (λ (bars : List Bar). plain_bar now run ∷ bars) (placed_runs now runs (drop 1 lanes))
