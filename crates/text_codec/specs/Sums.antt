-- Values of several kinds, each with a word of its own.
use Rattle.std.specs.Prelude.{◌≡◌, ℕ, Bool, true, List, [], ◌∷◌, ◌++◌, Option, Some, codes}
use Rattle.std.specs.List.{list_all, list_any}
use Rattle.std.specs.Str.{bytes_eq}
use Rattle.text_codec.specs.Lexical.{parts, IsClean}
use Rattle.text_codec.specs.Formats.{Format, ◌>>=◌, strip, first_word, behind_word, first_spelled}
use Rattle.text_codec.specs.Fields.{Fields, clear}

-- How one value of a sum is spelled: its text, and whether its fields are within their ranges.
pub record Spelled : Type 1 where
  pub text : List ℕ
  pub valid : Type 0

-- a word alone, a word with a value behind a space, and a word with fields
abbrev pub alone : List ℕ → Spelled
alone word = record { text = word; valid = Unit {0} }

abbrev pub keyed : {A : Type 0} → List ℕ → Format A → A → Spelled
keyed word f x = record { text = word ++ 32 ∷ f.spell x; valid = f.valid x }

abbrev pub fielded : {A : Type 0} → List ℕ → Fields A → A → Spelled
fielded word fs x = record { text = word ++ fs.body.spell x; valid = fs.body.valid x }

-- how each is read behind its word
abbrev pub arm_alone : {B : Type 0} → B → List ℕ → Option (B × List ℕ)
arm_alone y bs = Some (y, bs)

abbrev pub arm : {A B : Type 0} → Format A → (A → B) → List ℕ → Option (B × List ℕ)
arm f make bs = strip (codes " ") bs >>= λ rest. f.read rest >>= λ p. Some (make p.0, p.1)

abbrev pub arm_fields : {A B : Type 0} → Fields A → (A → B) → List ℕ → Option (B × List ℕ)
arm_fields fs make bs = fs.body.read bs >>= λ p. Some (make p.0, p.1)

-- the value whose word stands at the front
abbrev pub read_sum : {K A : Type 0} → (K → List ℕ) → List K → (K → List ℕ → Option (A × List ℕ)) → List ℕ → Option (A × List ℕ)
read_sum text all arms bs = first_spelled text all (first_word bs) >>= λ k. arms k (behind_word bs)

-- The values of several kinds, where none of these keys may follow.
unfoldable pub sum_of : {K A : Type 0} → (K → List ℕ) → List K → (K → List ℕ → Option (A × List ℕ)) → (A → Spelled) → List (List ℕ) → Fields A
sum_of text all arms form barred = record {
  body = record { spell = λ y. (form y).text; valid = λ y. (form y).valid; read = read_sum text all arms };
  keys = [];
  barred = barred;
}

-- What this arm reads behind its word was spelled so.
abbrev pub IsArm : {A : Type 0} → (A → Spelled) → List ℕ → (List ℕ → Option (A × List ℕ)) → Type 0
IsArm {A} form word read = (bs : List ℕ) (p : A × List ℕ) → read bs ≡ Some p → (form p.0).valid × (word ++ bs ≡ (form p.0).text ++ p.1)

-- What is spelled so is read as this value, where none of these keys follows.
pub record Stands {A : Type 0} (read : List ℕ → Option (A × List ℕ)) (barred : List (List ℕ)) (y : A) (s : Spelled) : Type 0 where
  pub again : (tail : List ℕ) → s.valid → parts tail ≡ true → clear barred tail ≡ true → read (s.text ++ tail) ≡ Some (y, tail)
  pub clean : s.valid → IsClean s.text

-- all of these keys are among those
abbrev pub covers : List (List ℕ) → List (List ℕ) → Bool
covers all some = list_all (λ k. list_any (λ j. bytes_eq j k) all) some
