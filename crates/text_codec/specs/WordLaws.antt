-- The laws of names and of words of capitals.
use Rattle.std.proofs.Common.{◌≡◌, ℕ, ◌==◌, ◌&&◌, not, nat_le, Bool, true, List, [], ◌∷◌, length, refl, subst, arith, IsUtf8}
use Rattle.std.specs.List.{list_all}
use Rattle.std.proofs.lemmas.Bool.Decides.{nat_tests}
use Rattle.std.proofs.lemmas.Option.{cond_some}
use Rattle.text_codec.specs.Lexical.{is_letter}
use Rattle.text_codec.specs.Formats.{IsFormat}
use Rattle.text_codec.specs.Words.{is_lower, is_in_name, is_name, is_capital, is_capitals, passing, word_with, name, capitals}
use Rattle.text_codec.specs.StepLaws.{both}
use Rattle.text_codec.specs.CleanLaws.{letters_clean}
use Rattle.text_codec.specs.FormatLaws.{worded_laws}

-- bytes that pass one test pass another
pub all_weaker : (test other : ℕ → Bool) → ((b : ℕ) → test b ≡ true → other b ≡ true) → (bs : List ℕ) → list_all test bs ≡ true → list_all other bs ≡ true
all_weaker test other more [] h = refl
all_weaker test other more (b ∷ bs) h = let t = both (test b) (list_all test bs) h in rw (more b t.0, all_weaker test other more bs t.1) refl

name_letter : (b : ℕ) → is_in_name b ≡ true → is_letter b ≡ true
name_letter b h = grind (arith, nat_tests)

lower_in : (b : ℕ) → is_lower b ≡ true → is_in_name b ≡ true
lower_in b h = grind (arith, nat_tests)

capital_letter : (b : ℕ) → is_capital b ≡ true → is_letter b ≡ true
capital_letter b h = grind (arith, nat_tests)

-- each byte of a name may stand in one
pub all_in_name : (w : List ℕ) → is_name w ≡ true → list_all is_in_name w ≡ true
all_in_name [] h = refl
all_in_name (b ∷ bs) h =
    let t = both (is_lower b && nat_le (length bs) 31) (list_all is_in_name bs) h in
    rw (lower_in b (both (is_lower b) (nat_le (length bs) 31) t.0).0, t.1) refl

pub name_letters : (w : List ℕ) → is_name w ≡ true → list_all is_letter w ≡ true
name_letters w h = all_weaker is_in_name is_letter name_letter w (all_in_name w h)

pub capitals_letters : (w : List ℕ) → is_capitals w ≡ true → list_all is_letter w ≡ true
capitals_letters w h = all_weaker is_capital is_letter capital_letter w (both (not (length w == 0)) (list_all is_capital w) h).1

pub name_utf8 : (w : List ℕ) → is_name w ≡ true → IsUtf8 w
name_utf8 w h = (letters_clean w (name_letters w h)).utf8

pub capitals_utf8 : (w : List ℕ) → is_capitals w ≡ true → IsUtf8 w
capitals_utf8 w h = (letters_clean w (capitals_letters w h)).utf8

-- words that pass a test
pub word_laws : (test : List ℕ → Bool) → ((w : List ℕ) → test w ≡ true → list_all is_letter w ≡ true) → IsFormat (word_with test)
word_laws test letters =
    worded_laws (λ w. w) (λ w. test w ≡ true) (passing test)
    (λ w x e. let k = cond_some (test w) w x e in subst (λ v. (test v ≡ true) × (w ≡ v)) k.1 (k.0, refl))
    (λ w v. (rw v refl, letters w v))

pub name_laws : IsFormat name
unfolding name
name_laws = word_laws is_name name_letters

pub capitals_laws : IsFormat capitals
unfolding capitals
capitals_laws = word_laws is_capitals capitals_letters
