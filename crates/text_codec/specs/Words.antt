-- Names and words of capitals: our profile.
use Rattle.std.specs.Prelude.{◌≡◌, ℕ, ◌==◌, ◌&&◌, ◌||◌, not, nat_le, Bool, true, false, List, [], ◌∷◌, length, Option, Some, None, if◌then◌else◌}
use Rattle.std.specs.List.{list_all}
use Rattle.text_codec.specs.Formats.{Format, worded}

-- a lower-case letter
abbrev pub is_lower : ℕ → Bool
is_lower b = nat_le 97 b && nat_le b 122

-- a lower-case letter, a digit or _
abbrev pub is_in_name : ℕ → Bool
is_in_name b = is_lower b || (nat_le 48 b && nat_le b 57) || (b == 95)

-- a lower-case letter, and at most 31 lower-case letters, digits or _
abbrev pub is_name : List ℕ → Bool
is_name [] = false
is_name (b ∷ bs) = is_lower b && nat_le (length bs) 31 && list_all is_in_name bs

-- a capital of ASCII, or _
abbrev pub is_capital : ℕ → Bool
is_capital b = (nat_le 65 b && nat_le b 90) || (b == 95)

-- capitals and _, at least one
abbrev pub is_capitals : List ℕ → Bool
is_capitals w = not (length w == 0) && list_all is_capital w

-- these bytes, where they pass a test
abbrev pub passing : (List ℕ → Bool) → List ℕ → Option (List ℕ)
passing test w = if test w then Some w else None

-- a word that passes a test, spelled as it stands
abbrev pub word_with : (List ℕ → Bool) → Format (List ℕ)
word_with test = worded (λ w. w) (λ w. test w ≡ true) (passing test)

-- a name
unfoldable pub name : Format (List ℕ)
name = word_with is_name

-- a word of capitals, as the name of a limit
unfoldable pub capitals : Format (List ℕ)
capitals = word_with is_capitals
