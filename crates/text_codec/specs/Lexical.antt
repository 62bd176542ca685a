-- The bytes of words, and how the bytes of a text are spelled: our profile.
use Rattle.std.specs.Prelude.{ℕ, ◌+◌, ◌/◌, ◌%◌, ◌==◌, ◌&&◌, ◌||◌, not, nat_lt, nat_le, IsUtf8, Bool, true, List, [], ◌∷◌, ◌++◌, ◌≡◌, if◌then◌else◌}
use Rattle.std.specs.List.{list_all, list_any, flat_map}

-- the bytes of a word or a number: visible, in ASCII, no quote, no bracket or brace, no @
abbrev pub is_letter : ℕ → Bool
is_letter b = nat_le 33 b && nat_le b 126 && not (list_any (λ s. b == s) (34 ∷ 64 ∷ 91 ∷ 93 ∷ 123 ∷ 125 ∷ []))

-- what may follow a form: nothing, or a byte that is in no word
abbrev pub parts : List ℕ → Bool
parts [] = true
parts (b ∷ bs) = not (is_letter b)

-- the bytes that stand between values, as keys, spaces and brackets: ASCII, from the space on
abbrev pub is_plain : List ℕ → Bool
is_plain bs = list_all (λ b. nat_le 32 b && nat_le b 126) bs

-- whether a byte is no line feed
abbrev pub no_feed : ℕ → Bool
no_feed b = not (b == 10)

-- UTF-8 without a line feed, so that it may stand in a line
pub record IsClean (bs : List ℕ) : Type 0 where
  pub one_line : list_all no_feed bs ≡ true
  pub utf8 : IsUtf8 bs

-- the character with this value, below 16, in lower-case hexadecimal
abbrev pub hex_digit : ℕ → ℕ
hex_digit d = if nat_lt d 10 then 48 + d else 87 + d

-- U+0000 to U+001F and U+007F
abbrev pub is_control : ℕ → Bool
is_control b = nat_lt b 32 || (b == 127)

-- How a byte of a text is spelled between the quotes: the quote and the backslash behind a backslash,
-- a control character as \x and two digits, and each other byte as itself.
unfoldable pub escaped : ℕ → List ℕ
escaped b =
    if b == 34 then 92 ∷ 34 ∷ []
    else (if b == 92 then 92 ∷ 92 ∷ []
    else (if is_control b then 92 ∷ 120 ∷ hex_digit (b / 16) ∷ hex_digit (b % 16) ∷ []
    else b ∷ []))

-- a text in its quotes
abbrev pub quoted : List ℕ → List ℕ
quoted text = 34 ∷ (flat_map escaped text ++ 34 ∷ [])
