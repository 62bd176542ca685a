-- How one byte of a text is read.
use Rattle.std.specs.Prelude.{ℕ, ◌+◌, ◌*◌, ◌-◌, ◌==◌, ◌||◌, ◌&&◌, nat_le, List, [], ◌∷◌, Option, Some, None, option_and_then, if◌then◌else◌}
use Rattle.std.specs.declared.option.Option.{Option}
use Rattle.text_codec.specs.Lexical.{is_control}

-- the first byte, and those after it
abbrev pub uncons : List ℕ → Option (ℕ × List ℕ)
uncons [] = None
uncons (b ∷ bs) = Some (b, bs)

-- the value of a lower-case hexadecimal digit
abbrev pub hex_value : ℕ → Option ℕ
hex_value b = if nat_le 48 b && nat_le b 57 then Some (b - 48) else (if nat_le 97 b && nat_le b 102 then Some (b - 87) else None)

-- the control character that two digits spell
abbrev pub control : ℕ → ℕ → Option ℕ
control high low =
    option_and_then (λ h. option_and_then (λ l. if is_control (h * 16 + l) then Some (h * 16 + l) else None) (hex_value low)) (hex_value high)

-- what stands behind \x
abbrev pub control_at : List ℕ → Option (ℕ × List ℕ)
control_at [] = None
control_at (high ∷ []) = None
control_at (high ∷ low ∷ rest) = option_and_then (λ byte. Some (byte, rest)) (control high low)

-- what stands behind a backslash
abbrev pub escape_at : List ℕ → Option (ℕ × List ℕ)
escape_at [] = None
escape_at (b ∷ rest) = if (b == 34) || (b == 92) then Some (b, rest) else (if b == 120 then control_at rest else None)

-- the byte that the front spells, and what follows
abbrev pub unit_at : List ℕ → Option (ℕ × List ℕ)
unit_at [] = None
unit_at (b ∷ rest) = if b == 92 then escape_at rest else (if (b == 34) || is_control b then None else Some (b, rest))

-- what follows this byte, where it stands at the front
abbrev pub after : ℕ → List ℕ → Option (List ℕ)
after byte [] = None
after byte (b ∷ bs) = if b == byte then Some bs else None
