-- The text of a forecast: our profile.
use Rattle.std.specs.Prelude.{ℕ, List, [], ◌∷◌, ◌++◌, length, codes, decimal}
use Rattle.std.specs.List.{flat_map}
use Rattle.forecast.specs.declared.predictions.Predicted.{Predicted}

-- the line of a start: `JOB @MOMENT SLOTS`
abbrev pub start_line : Predicted → List ℕ
start_line start = decimal start.job.0 ++ (codes " @" ++ (decimal start.at ++ 32 ∷ (decimal start.slots ++ 10 ∷ [])))

-- the last line: `starts COUNT`
abbrev pub count_line : ℕ → List ℕ
count_line count = codes "starts " ++ (decimal count ++ 10 ∷ [])

-- The line of each start, in order, and how many there are.
abbrev pub forecast_text : List Predicted → List ℕ
forecast_text starts = flat_map start_line starts ++ count_line (length starts)
