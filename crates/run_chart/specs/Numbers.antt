-- The numbers of jobs in their bars: our profile.
use Rattle.std.specs.Prelude.{ℕ, ◌+◌, ◌*◌, ◌/◌, ◌&&◌, nat_le, Bool, List, [], ◌∷◌, ◌++◌, length, codes, decimal, if◌then◌else◌}
use Rattle.std.specs.List.{flat_map}
use Rattle.run_chart.specs.declared.bars.Bar.{Bar}
use Rattle.run_chart.specs.declared.lanes.Span.{Span}
use Rattle.run_chart.specs.declared.pieces.Piece.TheVariants as piece
use Rattle.run_chart.specs.declared.scales.Scale.{Scale}
use Rattle.run_chart.specs.Pieces.{fixed}
use Rattle.run_chart.specs.Scales.{across, width, down}
use Rattle.run_chart.specs.Shapes.{number, attribute}

-- a lane is high enough, and the bar has 8 pixels for each digit
unfoldable pub is_fitting : Scale → Bar → Bool
is_fitting s bar = nat_le 1_200 s.lane && nat_le (length (decimal bar.job.0) * 800 + 400) (width s bar.from bar.until)

-- how far below the top of a lane the number stands
abbrev pub line_of : ℕ → ℕ
line_of lane = (lane + 800) / 2

unfoldable pub place_text : Scale → Bar → Span → List ℕ
place_text s bar span =
    attribute (codes "x") (across s bar.from) ++ (attribute (codes "y") (down s span.first) ++ attribute (codes "dy") (line_of s.lane))

unfoldable pub number_at : Scale → Bar → Span → List ℕ
number_at s bar span =
    fixed piece.JobNumber ++ (place_text s bar span ++ (codes ">" ++ (number bar.job.0 ++ fixed piece.TextEnd)))

-- in the first lanes of the bar, where it fits
unfoldable pub number_in : Scale → Bar → List Span → List ℕ
number_in s bar [] = []
number_in s bar (span ∷ others) = if is_fitting s bar then number_at s bar span else []

unfoldable pub number_text : Scale → Bar → List ℕ
number_text s bar = number_in s bar bar.lanes

abbrev pub all_text : Scale → List Bar → List ℕ
all_text s bars = flat_map (number_text s) bars
