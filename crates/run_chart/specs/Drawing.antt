-- Bars, reservations and submissions as SVG: our profile.
use Rattle.std.specs.Prelude.{ℕ, ◌+◌, ◌-◌, ◌==◌, ◌&&◌, min, nat_lt, Bool, List, [], ◌∷◌, ◌++◌, length, Option, Some, None, codes, if◌then◌else◌}
use Rattle.std.specs.List.{flat_map}
use Rattle.drmaa_types.specs.declared.infos.Reserved.{Reserved}
use Rattle.drmaa_types.specs.declared.states.Exit.TheVariants.{Code, Signal}
use Rattle.run_views.specs.declared.runs.Ending.{Ending}
use Rattle.run_views.specs.declared.runs.Ending.TheVariants.{Exited, Unknown, NotStarted}
use Rattle.run_chart.specs.declared.bars.Bar.{Bar}
use Rattle.run_chart.specs.declared.lanes.Span.{Span}
use Rattle.run_chart.specs.declared.pieces.Piece.TheVariants as piece
use Rattle.run_chart.specs.declared.scales.Scale.{Scale}
use Rattle.run_chart.specs.declared.shapes.Area.{Area}
use Rattle.run_chart.specs.Pieces.{fixed}
use Rattle.run_chart.specs.Scales.{across, width, down}
use Rattle.run_chart.specs.Shapes.{number, box_text, escaped}

-- ---- bars

-- by how the run ended
unfoldable pub class_of : Option Ending → List ℕ
class_of None = codes "running"
class_of (Some (Exited (Code n))) = if n == 0 then codes "done" else codes "failed"
class_of (Some (Exited (Signal n))) = codes "killed"
class_of (Some Unknown) = codes "unknown"
class_of (Some NotStarted) = codes "unstarted"

unfoldable pub ending_text : Option Ending → List ℕ
ending_text None = codes "running"
ending_text (Some (Exited (Code n))) = codes "code " ++ number n
ending_text (Some (Exited (Signal n))) = codes "signal " ++ number n
ending_text (Some Unknown) = codes "unknown"
ending_text (Some NotStarted) = codes "not started"

unfoldable pub course_text : ℕ → ℕ → ℕ → List ℕ
course_text slots from until =
    fixed piece.Slots ++ (number slots ++ (fixed piece.From ++ (number from ++ (fixed piece.Until ++ number until))))

abbrev pub words_text : List (List ℕ) → List ℕ
words_text words = flat_map (λ (word : List ℕ). codes " " ++ escaped word) words

-- the words are told in a detailed chart alone
unfoldable pub details_text : Bool → List (List ℕ) → List ℕ
details_text is_detailed words = if is_detailed then codes ":" ++ words_text words else []

unfoldable pub launch_text : Bar → List ℕ
launch_text bar = fixed piece.JobTitle ++ (number bar.job.0 ++ (fixed piece.Attempt ++ number bar.attempt))

unfoldable pub title_text : Bool → Bar → List ℕ
title_text is_detailed bar =
    launch_text bar ++ (course_text bar.slots bar.from bar.until ++ (codes ", " ++ (ending_text bar.end
    ++ (details_text is_detailed bar.words ++ fixed piece.TitleEnd))))

-- a box for lanes next to one another
abbrev pub area_of : Scale → Bar → Span → Area
area_of s bar span = record {
  x = across s bar.from;
  y = down s span.first;
  width = width s bar.from bar.until;
  height = down s (span.end - span.first);
}

abbrev pub areas_text : Scale → Bar → List Span → List ℕ
areas_text s bar lanes = flat_map (λ (span : Span). box_text (area_of s bar span)) lanes

unfoldable pub bar_text : Scale → Bool → Bar → List ℕ
bar_text s is_detailed bar =
    codes "<g class=\"" ++ (class_of bar.end ++ (codes "\">" ++ (title_text is_detailed bar
    ++ (areas_text s bar bar.lanes ++ fixed piece.GroupEnd))))

abbrev pub bars_text : Scale → Bool → List Bar → List ℕ
bars_text s is_detailed bars = flat_map (bar_text s is_detailed) bars

-- ---- reservations, in the lowest lanes, one upon another

-- another was accepted before, and both keep slots at some moment
abbrev pub is_below : Reserved → Reserved → Bool
is_below block other =
    nat_lt other.reservation.0 block.reservation.0 && (nat_lt other.from block.until && nat_lt block.from other.until)

-- so many lanes more, and at most all
abbrev pub raised : ℕ → ℕ → ℕ → ℕ
raised rows level slots = min (level + slots) rows

-- so many lanes, and those of the others that are below
abbrev pub lanes_below : ℕ → Reserved → ℕ → List Reserved → ℕ
lanes_below rows block level [] = level
lanes_below rows block level (other ∷ others) =
    lanes_below rows block (if is_below block other then raised rows level other.slots else level) others

-- where there are many, all are in the lowest lanes
abbrev pub level_of : Scale → Reserved → List Reserved → ℕ
level_of s block others = if nat_lt (length others) 500 then lanes_below s.rows block 0 others else 0

abbrev pub block_area : Scale → Reserved → ℕ → Area
block_area s block level = record {
  x = across s block.from;
  y = down s ((s.rows - block.slots) - level);
  width = width s block.from block.until;
  height = down s block.slots;
}

unfoldable pub block_text : Scale → Reserved → ℕ → List ℕ
block_text s block level =
    fixed piece.Reserved ++ (number block.reservation.0 ++ (course_text block.slots block.from block.until
    ++ (fixed piece.TitleEnd ++ (box_text (block_area s block level) ++ fixed piece.GroupEnd))))

abbrev pub blocks_text : Scale → List Reserved → List Reserved → List ℕ
blocks_text s all blocks = flat_map (λ (block : Reserved). block_text s block (level_of s block all)) blocks

-- ---- submissions, as marks above the lanes

unfoldable pub mark_text : Scale → ℕ → List ℕ
mark_text s at = codes "M" ++ (number (across s at) ++ codes " -900v800")

abbrev pub marks_text : Scale → List ℕ → List ℕ
marks_text s submitted = flat_map (mark_text s) submitted
