-- References of scripts: by name, by `#` and a number, and by an array and an index. Our profile.
use Rattle.std.specs.Prelude.{◌≡◌, ℕ, ◌<◌, ◌^◌, ◌==◌, not, Bool, true, List, [], ◌∷◌, ◌++◌, Option, Some, None, decimal, codes, if◌then◌else◌}
use Rattle.text_codec.specs.Formats.{Format, ◌>>=◌, choose, strip, worded, number_of}
use Rattle.text_codec.specs.Words.{is_name, passing}
use Rattle.script_lines.specs.declared.refs.Ref.{Ref}
use Rattle.script_lines.specs.declared.refs.Ref.TheVariants.{Bound, Member, Number}

abbrev pub ref_text : Ref → List ℕ
ref_text (Bound name) = name
ref_text (Member array index) = array ++ 46 ∷ decimal index
ref_text (Number n) = 35 ∷ decimal n

abbrev pub IsRef : Ref → Type 0
IsRef (Bound name) = is_name name ≡ true
IsRef (Member array index) = (is_name array ≡ true) × (index < 2 ^ 32)
IsRef (Number n) = n < 2 ^ 64

-- a byte in front of the first part
abbrev pub onto_part : ℕ → Option (List ℕ × List ℕ) → Option (List ℕ × List ℕ)
onto_part b None = None
onto_part b (Some p) = Some (b ∷ p.0, p.1)

-- what stands before the first dot, and behind it
abbrev pub at_dot : List ℕ → Option (List ℕ × List ℕ)
at_dot [] = None
at_dot (b ∷ bs) = if b == 46 then Some ([], bs) else onto_part b (at_dot bs)

-- whether a byte is no dot
abbrev pub no_dot : ℕ → Bool
no_dot b = not (b == 46)

abbrev pub numbered : List ℕ → Option Ref
numbered digits = number_of (2 ^ 64) digits >>= λ n. Some (Number n)

abbrev pub member : List ℕ × List ℕ → Option Ref
member p = passing is_name p.0 >>= λ array. number_of (2 ^ 32) p.1 >>= λ index. Some (Member array index)

abbrev pub bound_to : List ℕ → Option Ref
bound_to word = passing is_name word >>= λ name. Some (Bound name)

unfoldable pub ref_of : List ℕ → Option Ref
ref_of word = choose (strip (codes "#") word) numbered (choose (at_dot word) member (bound_to word))

-- a reference
unfoldable pub reference : Format Ref
reference = worded ref_text IsRef ref_of
