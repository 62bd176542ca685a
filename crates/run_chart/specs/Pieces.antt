-- The fixed pieces of a page: our profile. Numbers are hundredths of a pixel.
use Rattle.std.specs.Prelude.{ℕ, List, codes}
use Rattle.run_chart.specs.declared.pieces.Piece.{Piece}
use Rattle.run_chart.specs.declared.pieces.Piece.TheVariants as piece
use Rattle.run_chart.specs.declared.pieces.TheConstants.{STYLE, LEGEND}

unfoldable pub fixed : Piece → List ℕ
fixed piece.Opening = codes "<svg xmlns=\"http://www.w3.org/2000/svg\" width=\"1140\""
fixed piece.ViewBox = codes " viewBox=\"0 0 114000 "
fixed piece.Style = STYLE.now
fixed piece.Heading = codes "<text class=\"head\" x=\"7000\" y=\"2400\">Slots: "
fixed piece.Runs = codes ". Runs: "
fixed piece.Reservations = codes ". Reservations: "
fixed piece.Submissions = codes ". Submissions: "
fixed piece.HeadingEnd = codes ".</text>\n"
fixed piece.Legend = LEGEND.now
fixed piece.Frame = codes "<g transform=\"translate(7000 7600)\">\n"
fixed piece.Lanes = codes "<pattern id=\"lanes\" width=\"100000\""
fixed piece.LaneLine = codes " patternUnits=\"userSpaceOnUse\"><path d=\"M0 0h100000\" stroke=\"#ccc\" stroke-width=\"80\"/></pattern><rect width=\"100000\""
fixed piece.FirstLane = codes " fill=\"url(#lanes)\" stroke=\"#888\" stroke-width=\"100\"/><text class=\"slot\" x=\"-800\" y=\"1100\">1</text><text class=\"slot\" x=\"-800\""
fixed piece.GridLine = codes "<path class=\"grid\" d=\"M"
fixed piece.Down = codes " 0v"
fixed piece.TickLabel = codes "v500\"/><text class=\"axis\" dy=\"1800\""
fixed piece.TextEnd = codes "</text>\n"
fixed piece.Drawn = codes "<g class=\"drawn\" transform=\"translate(7000 7600)\">\n"
fixed piece.ManyDrawn = codes "<g class=\"drawn many\" transform=\"translate(7000 7600)\">\n"
fixed piece.Marks = codes "<path class=\"submitted\" d=\""
fixed piece.NowLine = codes "<path class=\"now\" d=\"M"
fixed piece.PathEnd = codes "\"/>\n"
fixed piece.Numbers = codes "<g class=\"labels\" transform=\"translate(7000 7600)\">\n"
fixed piece.JobNumber = codes "<text dx=\"300\""
fixed piece.End = codes "</g>\n</svg>\n"
fixed piece.JobTitle = codes "<title>job "
fixed piece.Attempt = codes ", attempt "
fixed piece.Slots = codes ", slots "
fixed piece.From = codes ", from "
fixed piece.Until = codes " until "
fixed piece.TitleEnd = codes "</title>"
fixed piece.Reserved = codes "<g class=\"reserved\"><title>reservation "
fixed piece.GroupEnd = codes "</g>\n"
