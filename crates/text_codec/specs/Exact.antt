-- Forms of a fixed width, which need nothing that parts them.
use Rattle.std.specs.Prelude.{◌≡◌, ℕ, ◌+◌, ◌-◌, ◌*◌, ◌/◌, ◌%◌, ◌<◌, ◌&&◌, nat_le, Bool, List, [], ◌∷◌, ◌++◌, Option, Some, None, if◌then◌else◌}
use Rattle.text_codec.specs.Lexical.{IsClean}
use Rattle.text_codec.specs.Formats.{Format, ◌>>=◌, strip}

-- What is read was spelled so, and what is spelled so is read, whatever follows. It may stand in a line.
pub record IsExact {A : Type 0} (f : Format A) : Type 0 where
  pub found : (bs : List ℕ) (p : A × List ℕ) → f.read bs ≡ Some p → f.valid p.0 × (bs ≡ f.spell p.0 ++ p.1)
  pub again : (x : A) (rest : List ℕ) → f.valid x → f.read (f.spell x ++ rest) ≡ Some (x, rest)
  pub clean : (x : A) → f.valid x → IsClean (f.spell x)

-- two values with these bytes between
unfoldable pub beside : {A B : Type 0} → List ℕ → Format A → Format B → Format (A × B)
beside key f g = record {
  spell = λ p. f.spell p.0 ++ (key ++ g.spell p.1);
  valid = λ p. f.valid p.0 × g.valid p.1;
  read = λ bs. f.read bs >>= λ p. strip key p.1 >>= λ rest. g.read rest >>= λ q. Some ((p.0, q.0), q.1);
}

-- a value with these bytes behind it
unfoldable pub before : {A : Type 0} → List ℕ → Format A → Format A
before key f = record {
  spell = λ x. f.spell x ++ key;
  valid = f.valid;
  read = λ bs. f.read bs >>= λ p. strip key p.1 >>= λ rest. Some (p.0, rest);
}

-- a decimal digit
abbrev pub is_digit : ℕ → Bool
is_digit b = nat_le 48 b && nat_le b 57

-- the number of two digits, and what follows them
abbrev pub two_at : List ℕ → Option (ℕ × List ℕ)
two_at [] = None
two_at (a ∷ []) = None
two_at (a ∷ b ∷ bs) = if is_digit a && is_digit b then Some ((a - 48) * 10 + (b - 48), bs) else None

-- two digits, whatever the first is
unfoldable pub two : Format ℕ
two = record { spell = λ n. (48 + n / 10) ∷ (48 + n % 10) ∷ []; valid = λ n. n < 100; read = two_at }
