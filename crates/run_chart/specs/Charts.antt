-- What is drawn of a history: our profile.
use Rattle.std.specs.Prelude.{ℕ, max, Bool, true, false, List, [], ◌∷◌, if◌then◌else◌}
use Rattle.drmaa_model.specs.declared.entries.Entry.{Entry}
use Rattle.drmaa_model.specs.declared.replies.Reply.{Reply}
use Rattle.drmaa_model.specs.declared.replies.Reply.TheVariants as reply
use Rattle.run_chart.specs.declared.charts.Chart.{Chart}
use Rattle.run_chart.specs.Bars.{bars_of}
use Rattle.run_chart.specs.Blocks.{blocks_of}

-- whether jobs were submitted: a job, or an array
abbrev pub is_submission : Reply → Bool
is_submission (reply.Job job) = true
is_submission (reply.Array array first count) = true
is_submission other = false

-- the moments of submissions, where time has come to a moment before the first entry: it never falls
abbrev pub submitted_from : ℕ → List Entry → List ℕ
submitted_from now [] = []
submitted_from now (entry ∷ later) =
    if is_submission entry.reply then max now entry.at ∷ submitted_from (max now entry.at) later
    else submitted_from (max now entry.at) later

-- The chart of a history: of a machine with so many slots, at this moment.
abbrev pub chart_of : ℕ → ℕ → List Entry → Chart
chart_of slots now entries = record {
  slots = slots;
  moment = now;
  bars = bars_of slots now entries;
  blocks = blocks_of entries;
  submitted = submitted_from 0 entries;
}
