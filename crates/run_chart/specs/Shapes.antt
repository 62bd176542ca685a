-- The pieces of SVG: our profile.
use Rattle.std.specs.Prelude.{ℕ, ◌==◌, ◌&&◌, not, nat_le, Bool, List, [], ◌++◌, codes, decimal, chars, encode_utf8, if◌then◌else◌}
use Rattle.std.specs.List.{flat_map}
use Rattle.run_chart.specs.declared.shapes.Area.{Area}

unfoldable pub number : ℕ → List ℕ
number n = decimal n

-- a blank, and NAME="n"
unfoldable pub attribute : List ℕ → ℕ → List ℕ
attribute name n = codes " " ++ (name ++ (codes "=\"" ++ (number n ++ codes "\"")))

unfoldable pub box_text : Area → List ℕ
box_text area =
    codes "<rect" ++ (attribute (codes "x") area.x ++ (attribute (codes "y") area.y
    ++ (attribute (codes "width") area.width ++ (attribute (codes "height") area.height ++ codes "/>"))))

-- no control character is written, and none that XML has not
abbrev pub is_written : ℕ → Bool
is_written c = nat_le 32 c && not (nat_le 127 c && nat_le c 159) && not (c == 65_534) && not (c == 65_535)

-- a character, where it is not taken for markup
abbrev pub escaped_char : ℕ → List ℕ
escaped_char c =
    if c == 38 then codes "&amp;"
    else (if c == 60 then codes "&lt;"
    else (if c == 62 then codes "&gt;"
    else (if c == 34 then codes "&quot;"
    else (if is_written c then encode_utf8 c else []))))

-- a text, character by character
abbrev pub escaped : List ℕ → List ℕ
escaped text = flat_map escaped_char (chars text)
