-- A text in its quotes, as it is read.
use Rattle.std.specs.Prelude.{ℕ, zero, suc, IsUtf8, List, [], ◌∷◌, ◌++◌, length, Option, Some, None, if◌then◌else◌}
use Rattle.std.specs.List.{flat_map}
use Rattle.std.specs.Str.{is_utf8}
use Rattle.text_codec.specs.Lexical.{quoted, escaped}
use Rattle.text_codec.specs.Units.{unit_at, after}
use Rattle.text_codec.specs.Formats.{Format, ◌>>=◌, choose}

-- the bytes that are spelled up to a closing quote, and what follows it; at most so many
abbrev pub units_within : ℕ → List ℕ → Option (List ℕ × List ℕ)
units_within zero bs = None
units_within (suc n) bs =
    choose (unit_at bs) (λ u. units_within n u.1 >>= λ more. Some (u.0 ∷ more.0, more.1)) (after 34 bs >>= λ rest. Some ([], rest))

unfoldable pub text_at : List ℕ → Option (List ℕ × List ℕ)
text_at bs = after 34 bs >>= λ rest. units_within (length rest) rest >>= λ p. if is_utf8 p.0 then Some p else None

-- a text in its quotes
unfoldable pub text : Format (List ℕ)
text = record { spell = quoted; valid = IsUtf8; read = text_at }

-- a text in its quotes, without the first one
unfoldable pub inside_at : List ℕ → Option (List ℕ × List ℕ)
inside_at bs = units_within (length bs) bs >>= λ p. if is_utf8 p.0 then Some p else None

unfoldable pub inside : Format (List ℕ)
inside = record { spell = λ t. flat_map escaped t ++ 34 ∷ []; valid = IsUtf8; read = inside_at }
