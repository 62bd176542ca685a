-- Names of a letter and a number: that they are names, and that two of them differ.
use Rattle.std.proofs.Common.{◌≡◌, ℕ, ◌+◌, ◌%◌, ◌<◌, ◌≤◌, ◌^◌, nat_le, Bool, true, false, List, [], ◌∷◌, ◌++◌, length, decimal, lit<, refl, sym, ap, ◌∙◌, arith}
use Rattle.std.specs.List.{list_all}
use Rattle.std.specs.Str.{bytes_eq}
use Rattle.std.specs.Str.Parse.{digits_value}
use Rattle.std.proofs.lemmas.Bool.Decides.{nat_tests}
use Rattle.std.proofs.lemmas.Fmt.{decimal_by_steps, decimal_is_IsNumeral, length-decimal-le}
use Rattle.std.proofs.lemmas.Slice.Eq.{bytes_eq-Decides}
use Rattle.text_codec.specs.StepLaws.{both, by_test}
use Rattle.text_codec.specs.Words.{is_name, is_in_name, is_lower}

small : (n : ℕ) → n ≤ 100_000 → n < 2 ^ 64
small n h = omega (arith, h)

-- a digit may stand in a name
digit_in_name : (d : ℕ) → d < 10 → is_in_name (48 + d) ≡ true
digit_in_name d h = grind (arith, nat_tests)

all_more : (test : ℕ → Bool) (xs : List ℕ) (y : ℕ) → list_all test xs ≡ true → test y ≡ true → list_all test (xs ++ y ∷ []) ≡ true
all_more test [] y e f = rw f refl
all_more test (x ∷ xs) y e f = let t = both (test x) (list_all test xs) e in rw (t.0, all_more test xs y t.1 f) refl

digits_in_name : (n : ℕ) → n ≤ 100_000 → list_all is_in_name (decimal n) ≡ true
digits_in_name n h =
    decimal_by_steps (λ m ds. list_all is_in_name ds ≡ true)
    (λ d l. rw (digit_in_name d l) refl)
    (λ d ds l r. all_more is_in_name ds (48 + d % 10) r (digit_in_name (d % 10) (omega arith)))
    n (small n h)

few_digits : (n : ℕ) → n ≤ 100_000 → nat_le (length (decimal n)) 31 ≡ true
few_digits n h = let short : length (decimal n) ≤ 6 = length-decimal-le 6 n (lit< tt) (omega (arith, h)) (small n h) in grind (arith, nat_tests)

pub is_numbered : (letter n : ℕ) → is_lower letter ≡ true → n ≤ 100_000 → is_name (letter ∷ decimal n) ≡ true
is_numbered letter n lower h = rw (lower, few_digits n h, digits_in_name n h) refl

-- two numbers are written differently, behind one letter
same_number : (n m : ℕ) → n ≤ 100_000 → m ≤ 100_000 → decimal n ≡ decimal m → n ≡ m
same_number n m h k e = sym (decimal_is_IsNumeral n (small n h)).1 ∙ ap (digits_value 10) e ∙ (decimal_is_IsNumeral m (small m k)).1

same_tail : (k : ℕ) (xs ys : List ℕ) → k ∷ xs ≡ k ∷ ys → xs ≡ ys
same_tail k xs ys e = cc

pub apart : (letter n m : ℕ) → n ≤ 100_000 → m ≤ 100_000 → (n ≡ m → ⊥) → bytes_eq (letter ∷ decimal n) (letter ∷ decimal m) ≡ false
apart letter n m h j differ =
    by_test (bytes_eq (letter ∷ decimal n) (letter ∷ decimal m))
    (λ t. absurd (differ (same_number n m h j (same_tail letter (decimal n) (decimal m) ((bytes_eq-Decides (letter ∷ decimal n) (letter ∷ decimal m)).0 t)))))
    (λ f. f)

pub itself : (name : List ℕ) → bytes_eq name name ≡ true
itself name = (bytes_eq-Decides name name).1 refl
