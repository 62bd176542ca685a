-- How moments and lanes are laid out on the page: our profile.
use Rattle.std.specs.Prelude.{ℕ, ◌-◌, ◌*◌, ◌/◌, min, max, nat_le, List, [], ◌∷◌, if◌then◌else◌}
use Rattle.drmaa_types.specs.declared.infos.Reserved.{Reserved}
use Rattle.run_chart.specs.declared.bars.Bar.{Bar}
use Rattle.run_chart.specs.declared.charts.Chart.{Chart}
use Rattle.run_chart.specs.declared.lanes.Span.{Span}
use Rattle.run_chart.specs.declared.scales.Scale.{Scale}

-- ---- the moments at the left and at the right

abbrev pub first_from : ℕ → List Reserved → ℕ
first_from first [] = first
first_from first (block ∷ blocks) = first_from (min first block.from) blocks

abbrev pub last_from : ℕ → List Reserved → ℕ
last_from last [] = last
last_from last (block ∷ blocks) = last_from (max last block.until) blocks

-- nothing is launched before the first submission
abbrev pub first_submitted : ℕ → List ℕ → ℕ
first_submitted now [] = now
first_submitted now (first ∷ later) = first

-- ---- lanes

abbrev pub rows_of_spans : ℕ → List Span → ℕ
rows_of_spans rows [] = rows
rows_of_spans rows (span ∷ spans) = rows_of_spans (max rows span.end) spans

abbrev pub rows_of_bars : ℕ → List Bar → ℕ
rows_of_bars rows [] = rows
rows_of_bars rows (bar ∷ bars) = rows_of_bars (rows_of_spans rows bar.lanes) bars

abbrev pub rows_of_blocks : ℕ → List Reserved → ℕ
rows_of_blocks rows [] = rows
rows_of_blocks rows (block ∷ blocks) = rows_of_blocks (max rows block.slots) blocks

-- all lanes of a small machine, and of a large one those that are used
abbrev pub rows_of : Chart → ℕ
rows_of chart = if nat_le chart.slots 64 then max chart.slots 1 else rows_of_blocks (rows_of_bars 1 chart.bars) chart.blocks

-- in hundredths of a pixel: 24 pixels, or all of them together are about 600 pixels high
abbrev pub lane_height : ℕ → ℕ
lane_height rows = max (min (60_000 / max rows 1) 2_400) 1

abbrev pub scale_of : Chart → Scale
scale_of chart = record {
  first = first_from (first_submitted chart.moment chart.submitted) chart.blocks;
  last = last_from chart.moment chart.blocks;
  rows = rows_of chart;
  lane = lane_height (rows_of chart);
}

-- ---- places on the page

-- how far to the right a moment is, in hundredths of a pixel: the axis is 1,000 pixels wide
unfoldable pub across : Scale → ℕ → ℕ
across s moment = (moment - s.first) * 100_000 / max (s.last - s.first) 1

-- how wide what lasts is, in hundredths of a pixel: 1.5 pixels at least
unfoldable pub width : Scale → ℕ → ℕ → ℕ
width s from until = max (across s until - across s from) 150

-- how high lanes are, in hundredths of a pixel
abbrev pub down : Scale → ℕ → ℕ
down s lanes = lanes * s.lane
