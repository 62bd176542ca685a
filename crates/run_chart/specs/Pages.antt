-- The page of a chart, as SVG: our profile.
use Rattle.std.specs.Prelude.{ℕ, ◌+◌, ◌/◌, nat_lt, Bool, List, [], ◌++◌, length, codes, if◌then◌else◌}
use Rattle.std.specs.List.{flat_map}
use Rattle.run_chart.specs.declared.charts.Chart.{Chart}
use Rattle.run_chart.specs.declared.pieces.Piece.{Piece}
use Rattle.run_chart.specs.declared.pieces.Piece.TheVariants as piece
use Rattle.run_chart.specs.declared.scales.Scale.{Scale}
use Rattle.run_chart.specs.Axes.{moments_of}
use Rattle.run_chart.specs.Dates.{moment_text}
use Rattle.run_chart.specs.Drawing.{bars_text, blocks_text, marks_text}
use Rattle.run_chart.specs.Numbers.{all_text}
use Rattle.run_chart.specs.Pieces.{fixed}
use Rattle.run_chart.specs.Scales.{across, down, scale_of}
use Rattle.run_chart.specs.Shapes.{number, attribute}

-- ---- the head, and how much there is of everything

unfoldable pub head_text : ℕ → List ℕ
head_text height =
    fixed piece.Opening ++ (attribute (codes "height") (height / 100) ++ (fixed piece.ViewBox ++ (number height ++ fixed piece.Style)))

unfoldable pub runs_text : Chart → List ℕ
runs_text chart = fixed piece.Heading ++ (number chart.slots ++ (fixed piece.Runs ++ number (length chart.bars)))

unfoldable pub requests_text : Chart → List ℕ
requests_text chart =
    fixed piece.Reservations ++ (number (length chart.blocks) ++ (fixed piece.Submissions ++ number (length chart.submitted)))

unfoldable pub counts_text : Chart → List ℕ
counts_text chart = runs_text chart ++ (requests_text chart ++ (fixed piece.HeadingEnd ++ fixed piece.Legend))

-- ---- lanes and axis

unfoldable pub last_lane_text : ℕ → ℕ → List ℕ
last_lane_text rows height = attribute (codes "y") height ++ (codes ">" ++ (number rows ++ fixed piece.TextEnd))

unfoldable pub lanes_text : Scale → ℕ → List ℕ
lanes_text s height =
    fixed piece.Lanes ++ (attribute (codes "height") s.lane ++ (fixed piece.LaneLine ++ (attribute (codes "height") height
    ++ (fixed piece.FirstLane ++ last_lane_text s.rows height))))

unfoldable pub line_text : Scale → ℕ → ℕ → List ℕ
line_text s height at = number (across s at) ++ (fixed piece.Down ++ number height)

unfoldable pub place_text : Scale → ℕ → ℕ → List ℕ
place_text s height at =
    fixed piece.TickLabel ++ (attribute (codes "x") (across s at) ++ (attribute (codes "y") height ++ codes ">"))

unfoldable pub tick_text : Scale → ℕ → ℕ → List ℕ
tick_text s height at =
    fixed piece.GridLine ++ (line_text s height at ++ (place_text s height at ++ (moment_text at ++ fixed piece.TextEnd)))

abbrev pub ticks_text : Scale → ℕ → List ℕ → List ℕ
ticks_text s height moments = flat_map (tick_text s height) moments

unfoldable pub axis_text : Scale → ℕ → List ℕ
axis_text s height = ticks_text s height (moments_of s)

unfoldable pub frame_text : Scale → ℕ → List ℕ
frame_text s height = fixed piece.Frame ++ (lanes_text s height ++ (axis_text s height ++ fixed piece.GroupEnd))

-- ---- what is drawn

unfoldable pub now_text : Scale → ℕ → ℕ → List ℕ
now_text s height moment = fixed piece.NowLine ++ (line_text s height moment ++ fixed piece.PathEnd)

-- words and numbers are written where there are fewer than 500 bars
abbrev pub is_detailed : Chart → Bool
is_detailed chart = nat_lt (length chart.bars) 500

-- the outlines of many bars are thin
abbrev pub group_of : Bool → Piece
group_of is_detailed = if is_detailed then piece.Drawn else piece.ManyDrawn

unfoldable pub submitted_text : Scale → Chart → List ℕ
submitted_text s chart = fixed piece.Marks ++ (marks_text s chart.submitted ++ fixed piece.PathEnd)

unfoldable pub drawn_text : Scale → ℕ → Chart → List ℕ
drawn_text s height chart =
    fixed (group_of (is_detailed chart)) ++ (blocks_text s chart.blocks chart.blocks ++ (bars_text s (is_detailed chart) chart.bars
    ++ (submitted_text s chart ++ (now_text s height chart.moment ++ fixed piece.GroupEnd))))

unfoldable pub shown_numbers : Scale → Chart → List ℕ
shown_numbers s chart = if is_detailed chart then all_text s chart.bars else []

unfoldable pub numbers_text : Scale → Chart → List ℕ
numbers_text s chart = fixed piece.Numbers ++ (shown_numbers s chart ++ fixed piece.End)

-- ---- the page

unfoldable pub page_text : Scale → Chart → List ℕ
page_text s chart =
    head_text (down s s.rows + 11_000) ++ (counts_text chart ++ (frame_text s (down s s.rows)
    ++ (drawn_text s (down s s.rows) chart ++ numbers_text s chart)))

-- The page of a chart.
abbrev pub chart_text : Chart → List ℕ
chart_text chart = page_text (scale_of chart) chart
