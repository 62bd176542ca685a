-- Numbers in names: which bytes they have, and that two of them differ.
use Rattle.std.proofs.Common.{◌≡◌, ℕ, ◌+◌, ◌%◌, ◌<◌, ◌≤◌, ◌^◌, nat_le, Bool, true, false, List, [], ◌∷◌, ◌++◌, length, decimal, lit<, refl, sym, ap, ◌∙◌, arith}
use Rattle.std.specs.List.{list_all, flat_map}
use Rattle.std.specs.Str.{bytes_eq}
use Rattle.std.specs.Str.Parse.{digits_value}
use Rattle.std.proofs.lemmas.Bool.Decides.{nat_tests}
use Rattle.std.proofs.lemmas.Fmt.{decimal_by_steps, decimal_is_IsNumeral, length-decimal-le}
use Rattle.std.proofs.lemmas.Grind.{flat_map-append}
use Rattle.std.proofs.lemmas.Slice.Eq.{bytes_eq-Decides}
use Rattle.text_codec.specs.Lexical.{escaped}
use Rattle.text_codec.specs.StepLaws.{both, by_test}
use Rattle.text_codec.specs.UnitLaws.{escaped-plain}
use Rattle.text_codec.specs.Words.{is_name, is_in_name}
use Rattle.command_scripts.specs.Texts.{template_name, job_name}

-- a number of a batch
pub small : (n : ℕ) → n ≤ 65_536 → n < 2 ^ 64
small n h = omega (arith, h)

-- a digit may stand in a name, and stands for itself in a text
digit_in_name : (d : ℕ) → d < 10 → is_in_name (48 + d) ≡ true
digit_in_name d h = grind (arith, nat_tests)

digit_escaped : (d : ℕ) → d < 10 → escaped (48 + d) ≡ (48 + d) ∷ []
digit_escaped d h = escaped-plain (48 + d) (grind (arith, nat_tests)) (grind (arith, nat_tests))

all_more : (test : ℕ → Bool) (xs : List ℕ) (y : ℕ) → list_all test xs ≡ true → test y ≡ true → list_all test (xs ++ y ∷ []) ≡ true
all_more test [] y e f = rw f refl
all_more test (x ∷ xs) y e f = let t = both (test x) (list_all test xs) e in rw (t.0, all_more test xs y t.1 f) refl

-- the digits of a number
abbrev Digits : ℕ → List ℕ → Type 0
Digits n ds = (list_all is_in_name ds ≡ true) × (flat_map escaped ds ≡ ds)

digits : (n : ℕ) → n < 2 ^ 64 → Digits n (decimal n)
digits n h =
    decimal_by_steps Digits
    (λ d l. (rw (digit_in_name d l) refl, rw (digit_escaped d l) refl))
    (λ d ds l r. (
      all_more is_in_name ds (48 + d % 10) r.0 (digit_in_name (d % 10) (omega arith)),
      flat_map-append escaped ds ((48 + d % 10) ∷ []) ∙ rw (r.1, digit_escaped (d % 10) (omega arith)) refl,
    ))
    n h

pub digits_in_name : (n : ℕ) → n ≤ 65_536 → list_all is_in_name (decimal n) ≡ true
digits_in_name n h = (digits n (small n h)).0

pub digits_escaped : (n : ℕ) → n ≤ 65_536 → flat_map escaped (decimal n) ≡ decimal n
digits_escaped n h = (digits n (small n h)).1

few_digits : (n : ℕ) → n ≤ 65_536 → nat_le (length (decimal n)) 31 ≡ true
few_digits n h = let short : length (decimal n) ≤ 5 = length-decimal-le 5 n (lit< tt) (omega (arith, h)) (small n h) in grind (arith, nat_tests)

pub is_template_name : (n : ℕ) → n ≤ 65_536 → is_name (template_name n) ≡ true
is_template_name n h = rw (few_digits n h, digits_in_name n h) refl

pub is_job_name : (n : ℕ) → n ≤ 65_536 → is_name (job_name n) ≡ true
is_job_name n h = rw (few_digits n h, digits_in_name n h) refl

-- two numbers are written differently, behind one letter
same_number : (n m : ℕ) → n ≤ 65_536 → m ≤ 65_536 → decimal n ≡ decimal m → n ≡ m
same_number n m h k e = sym (decimal_is_IsNumeral n (small n h)).1 ∙ ap (digits_value 10) e ∙ (decimal_is_IsNumeral m (small m k)).1

same_tail : (k : ℕ) (xs ys : List ℕ) → k ∷ xs ≡ k ∷ ys → xs ≡ ys
same_tail k xs ys e = cc

pub apart : (k n m : ℕ) → n ≤ 65_536 → m ≤ 65_536 → (n ≡ m → ⊥) → bytes_eq (k ∷ decimal n) (k ∷ decimal m) ≡ false
apart k n m h j differ =
    by_test (bytes_eq (k ∷ decimal n) (k ∷ decimal m))
    (λ t. absurd (differ (same_number n m h j (same_tail k (decimal n) (decimal m) ((bytes_eq-Decides (k ∷ decimal n) (k ∷ decimal m)).0 t)))))
    (λ f. f)

pub itself : (w : List ℕ) → bytes_eq w w ≡ true
itself w = (bytes_eq-Decides w w).1 refl
