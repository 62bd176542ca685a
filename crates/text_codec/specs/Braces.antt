-- Fields in braces, of which each may be left out: our profile.
use Rattle.std.specs.Prelude.{ℕ, ◌==◌, Bool, true, false, List, [], ◌∷◌, ◌++◌, Option, Some, codes, if◌then◌else◌}
use Rattle.text_codec.specs.Formats.{Format, ◌>>=◌, strip}
use Rattle.text_codec.specs.Fields.{Fields}

-- Fields that begin with a space, in braces: the opening one stands in place of that space.
abbrev pub braced : List ℕ → List ℕ
braced [] = codes "{}"
braced (b ∷ bs) = 123 ∷ (bs ++ 125 ∷ [])

-- these bytes, behind a space or not
abbrev pub fronted : Bool → List ℕ → List ℕ
fronted true bs = 32 ∷ bs
fronted false bs = bs

-- whether something else than a closing brace stands at the front
abbrev pub is_inside : List ℕ → Bool
is_inside [] = false
is_inside (b ∷ bs) = if b == 125 then false else true

-- what stands behind an opening brace, with the space that the brace stands in place of
unfoldable pub opened : List ℕ → Option (List ℕ)
opened bs = strip (codes "{") bs >>= λ a. Some (fronted (is_inside a) a)

-- fields in braces, which may be empty
unfoldable pub braces : {A : Type 0} → Fields A → Format A
braces fs = record {
  spell = λ x. braced (fs.body.spell x);
  valid = fs.body.valid;
  read = λ bs. opened bs >>= λ a. fs.body.read a >>= λ p. strip (codes "}") p.1 >>= λ rest. Some (p.0, rest);
}
