-- The bars of a history: our profile.
use Rattle.std.specs.Prelude.{ℕ, drop, List, [], ◌∷◌, Option, Some, None}
use Rattle.drmaa_model.specs.declared.entries.Entry.{Entry}
use Rattle.run_views.specs.declared.runs.Ending.{Ending}
use Rattle.run_views.specs.declared.runs.Run.{Run}
use Rattle.run_views.specs.declared.runs.RunEnd.{RunEnd}
use Rattle.run_views.specs.Runs.{runs_of}
use Rattle.run_chart.specs.declared.bars.Bar.{Bar}
use Rattle.run_chart.specs.declared.lanes.Span.{Span}
use Rattle.run_chart.specs.Lanes.{lanes_of}

-- a run lasts until its reported end, or until now
abbrev pub until : ℕ → Option RunEnd → ℕ
until now None = now
until now (Some end) = end.at

abbrev pub ending : Option RunEnd → Option Ending
ending None = None
ending (Some end) = Some end.how

-- the bar of a run, in these lanes
abbrev pub bar_of : ℕ → Run → List Span → Bar
bar_of now run lanes = record {
  job = run.job;
  attempt = run.attempt;
  from = run.launched;
  until = until now run.end;
  slots = run.slots;
  end = ending run.end;
  words = run.words;
  lanes = lanes;
}

-- without lanes
abbrev pub plain_bar : ℕ → Run → Bar
plain_bar now run = bar_of now run []

abbrev pub plain : Bar → Bar
plain bar = record bar { lanes = [] }

abbrev pub next_lanes : List (List Span) → List Span
next_lanes [] = []
next_lanes (lanes ∷ others) = lanes

-- a bar for each run, in the lanes that stand in its place
abbrev pub placed : ℕ → List Run → List (List Span) → List Bar
placed now [] lanes = []
placed now (run ∷ runs) lanes = bar_of now run (next_lanes lanes) ∷ placed now runs (drop 1 lanes)

-- The bars of a history, of a machine with so many slots, at this moment.
abbrev pub bars_of : ℕ → ℕ → List Entry → List Bar
bars_of slots now entries = placed now (runs_of entries) (lanes_of slots entries)
