-- The laws of numbers, texts and words.
use Rattle.std.proofs.Common.{◌≡◌, ℕ, zero, suc, ◌+◌, ◌%◌, ◌<◌, ◌≤◌, ◌^◌, ◌==◌, ◌&&◌, nat_lt, IsUtf8, true, false, List, [], ◌∷◌, ◌++◌, length, Some, None, decimal, codes, lit≤, refl, sym, ap, subst, ◌∙◌, arith, append_assoc, length-append}
use Rattle.std.specs.List.{list_all, flat_map}
use Rattle.std.specs.Str.{bytes_eq}
use Rattle.std.specs.Str.Parse.{digits_value}
use Rattle.std.proofs.lemmas.Bool.Decides.{nat_tests}
use Rattle.std.proofs.lemmas.Option.{none-some, same_Some, cond_some}
use Rattle.std.proofs.lemmas.Slice.Eq.{bytes_eq-Decides}
use Rattle.std.proofs.lemmas.Fmt.{decimal_is_IsNumeral, decimal_by_steps}
use Rattle.text_codec.specs.Lexical.{is_letter, quoted, escaped}
use Rattle.text_codec.specs.Units.{unit_at, after}
use Rattle.text_codec.specs.Quotes.{units_within, text_at, text, inside, inside_at}
use Rattle.text_codec.specs.CleanLaws.{inside_clean, quoted_clean}
use Rattle.drmaa_types.specs.Moments.{greatest}
use Rattle.text_codec.specs.Formats.{Format, IsFormat, Avoids, strip, number, number_of, first_spelled, one_of, behind, moment}
use Rattle.std.specs.Str.{is_utf8}
use Rattle.std.proofs.lemmas.Str.{IsUtf8-from_is_utf8, is_utf8-from_IsUtf8}
use Rattle.text_codec.specs.UnitLaws.{unit_found, unit_again, escaped_some}
use Rattle.text_codec.specs.StepLaws.{first_found, both, by_test, bind, chosen}
use Rattle.text_codec.specs.FormatLaws.{worded_laws, behind_laws}

-- numbers
less : (n bound : ℕ) → nat_lt n bound ≡ true → n < bound
less n bound h = grind (arith, nat_tests)

less_again : (n bound : ℕ) → n < bound → nat_lt n bound ≡ true
less_again n bound h = grind (arith, nat_tests)

pub number_found : (bound : ℕ) (w : List ℕ) (n : ℕ) → number_of bound w ≡ Some n → (n < bound) × (w ≡ decimal n)
unfolding number_of
number_found bound w n e =
    let k = cond_some (nat_lt (digits_value 10 w) bound && bytes_eq (decimal (digits_value 10 w)) w) (digits_value 10 w) n e in
    let t = both (nat_lt (digits_value 10 w) bound) (bytes_eq (decimal (digits_value 10 w)) w) k.0 in
    subst (λ m. (m < bound) × (w ≡ decimal m)) k.1 (less (digits_value 10 w) bound t.0, sym ((bytes_eq-Decides (decimal (digits_value 10 w)) w).0 t.1))

pub number_again : (bound n : ℕ) → bound ≤ 2 ^ 64 → n < bound → number_of bound (decimal n) ≡ Some n
unfolding number_of
number_again bound n b h =
    let small : n < 2 ^ 64 = omega (arith, b, h) in
    let value : digits_value 10 (decimal n) ≡ n = (decimal_is_IsNumeral n small).1 in
    let same : bytes_eq (decimal n) (decimal n) ≡ true = (bytes_eq-Decides (decimal n) (decimal n)).1 refl in
    rw (value, less_again n bound h, same) refl

digit_letter : (d : ℕ) → d < 10 → is_letter (48 + d) ≡ true
digit_letter d h = grind (arith, nat_tests)

all_more : (xs : List ℕ) (y : ℕ) → list_all is_letter xs ≡ true → is_letter y ≡ true → list_all is_letter (xs ++ y ∷ []) ≡ true
all_more [] y e f = rw f refl
all_more (x ∷ xs) y e f = let t = both (is_letter x) (list_all is_letter xs) e in rw (t.0, all_more xs y t.1 f) refl

-- the first byte is a digit
abbrev begins_digit : List ℕ → Type 0
begins_digit [] = ⊥
begins_digit (b ∷ bs) = (48 ≤ b) × (b ≤ 57)

begins_more : (xs ys : List ℕ) → begins_digit xs → begins_digit (xs ++ ys)
begins_more [] ys h = absurd h
begins_more (x ∷ xs) ys h = h

abbrev Digits : ℕ → List ℕ → Type 0
Digits n ds = (list_all is_letter ds ≡ true) × begins_digit ds

digits : (n : ℕ) → n < 2 ^ 64 → Digits n (decimal n)
digits n h =
    decimal_by_steps Digits
    (λ d l. (rw (digit_letter d l) refl, (omega arith, omega (arith, l))))
    (λ d ds l r. (all_more ds (48 + d % 10) r.0 (digit_letter (d % 10) (omega arith)), begins_more ds ((48 + d % 10) ∷ []) r.1))
    n h

pub number_laws : (bound : ℕ) → bound ≤ 2 ^ 64 → IsFormat (number bound)
unfolding number
number_laws bound b =
    worded_laws decimal (λ n. n < bound) (number_of bound)
    (λ w n e. number_found bound w n e)
    (λ n h. (number_again bound n b h, (digits n (omega (arith, b, h))).0))

no_digit : (k b : ℕ) → 48 ≤ b → b ≤ 57 → (48 ≤ k → k ≤ 57 → ⊥) → (b == k) ≡ false
no_digit k b l m n = by_test (b == k) (λ t. let same : b ≡ k = grind (arith, nat_tests) in absurd (n (subst (λ x. 48 ≤ x) same l) (subst (λ x. x ≤ 57) same m))) (λ f. f)

-- a sign that is no digit never begins a number
pub number_avoids : (bound k : ℕ) → bound ≤ 2 ^ 64 → (48 ≤ k → k ≤ 57 → ⊥) → (ks : List ℕ) → Avoids (k ∷ ks) (number bound)
unfolding number
number_avoids bound k b n ks x rest v = begun (decimal x ++ rest) (begins_more (decimal x) rest (digits x (omega (arith, b, v))).1)
  where
    begun : (bs : List ℕ) → begins_digit bs → strip (k ∷ ks) bs ≡ None
    begun [] h = absurd h
    begun (c ∷ cs) h = rw (no_digit k c h.0 h.1 n) refl

pub greatest_small : suc greatest ≤ 2 ^ 64
unfolding greatest
greatest_small = lit≤ tt

pub moment_laws : IsFormat moment
unfolding moment
moment_laws = behind_laws (codes "@") (number (suc greatest)) refl (number_laws (suc greatest) greatest_small)

pub behind_avoids : {A : Type 0} (j k : ℕ) (js ks : List ℕ) (f : Format A) → (k == j) ≡ false → Avoids (j ∷ js) (behind (k ∷ ks) f)
unfolding behind
behind_avoids j k js ks f e x rest v = rw e refl

-- words of a table
pub one_of_laws : {A : Type 0} (spelling : A → List ℕ) (all : List A) → list_all (λ x. list_all is_letter (spelling x)) all ≡ true → IsFormat (one_of spelling all)
one_of_laws spelling all letters =
    worded_laws spelling (λ x. first_spelled spelling all (spelling x) ≡ Some x) (first_spelled spelling all)
    (λ w x e. let same = first_found spelling all w x e in (subst (λ v. first_spelled spelling all v ≡ Some x) same e, same))
    (λ x v. (v, in_letters spelling all (spelling x) x letters v))
  where
    in_letters : {A : Type 0} (spelling : A → List ℕ) (all : List A) (w : List ℕ) (x : A) → list_all (λ x. list_all is_letter (spelling x)) all ≡ true → first_spelled spelling all w ≡ Some x → list_all is_letter (spelling x) ≡ true
    in_letters spelling [] w x l e = absurd (none-some _ e)
    in_letters spelling (y ∷ ys) w x l e =
        let t = both (list_all is_letter (spelling y)) (list_all (λ x. list_all is_letter (spelling x)) ys) l in
        by_test (bytes_eq (spelling y) w)
        (λ t'. subst (λ z. list_all is_letter (spelling z) ≡ true) (same_Some y x (rw t' at e)) t.0)
        (λ f. in_letters spelling ys w x t.1 (rw f at e))

-- texts
after_found : (k : ℕ) (bs rest : List ℕ) → after k bs ≡ Some rest → bs ≡ k ∷ rest
after_found k [] rest e = absurd (none-some _ e)
after_found k (b ∷ bs) rest e = by_test (b == k)
    (λ t. let same : b ≡ k = grind (arith, nat_tests) in ap (λ c. c ∷ bs) same ∙ ap (λ r. k ∷ r) (same_Some bs rest (rw t at e)))
    (λ f. absurd (none-some _ (rw f at e)))

units_found : (n : ℕ) (bs : List ℕ) (p : List ℕ × List ℕ) → units_within n bs ≡ Some p → bs ≡ flat_map escaped p.0 ++ 34 ∷ p.1
units_found zero bs p e = absurd (none-some _ e)
units_found (suc n) bs p e = chosen (unit_at bs) _ _ _ e
    (λ u a b. bind (units_within n u.1) _ p b (λ q c d.
    let whole : bs ≡ flat_map escaped (u.0 ∷ q.0) ++ 34 ∷ q.1 =
    unit_found bs u.0 u.1 a ∙ ap (λ t. escaped u.0 ++ t) (units_found n u.1 q c) ∙ sym (append_assoc (escaped u.0) (flat_map escaped q.0) (34 ∷ q.1)) in
    subst (λ s. bs ≡ flat_map escaped s.0 ++ 34 ∷ s.1) (same_Some _ _ d) whole))
    (λ a b. bind (after 34 bs) _ p b (λ rest c d. subst (λ s. bs ≡ flat_map escaped s.0 ++ 34 ∷ s.1) (same_Some _ _ d) (after_found 34 bs rest c)))

units_again : (n : ℕ) (t rest : List ℕ) → length t < n → units_within n (flat_map escaped t ++ 34 ∷ rest) ≡ Some (t, rest)
units_again zero t rest l = absurd (omega (arith, l))
units_again (suc n) [] rest l = refl
units_again (suc n) (x ∷ xs) rest l =
    rw (append_assoc (escaped x) (flat_map escaped xs) (34 ∷ rest), unit_again x (flat_map escaped xs ++ 34 ∷ rest), units_again n xs rest (omega (arith, l))) refl

units_long : (t rest : List ℕ) → length t < length (flat_map escaped t ++ 34 ∷ rest)
units_long [] rest = omega arith
units_long (x ∷ xs) rest =
    omega (arith, units_long xs rest, escaped_some x, ap length (append_assoc (escaped x) (flat_map escaped xs) (34 ∷ rest)), length-append (escaped x) (flat_map escaped xs ++ 34 ∷ rest))

pub text_again_any : (t rest : List ℕ) → IsUtf8 t → text_at (quoted t ++ rest) ≡ Some (t, rest)
unfolding text_at
text_again_any t rest v =
    rw (append_assoc (flat_map escaped t) (34 ∷ []) rest, units_again (length (flat_map escaped t ++ 34 ∷ rest)) t rest (units_long t rest), is_utf8-from_IsUtf8 t v) refl

pub text_laws : IsFormat text
unfolding text text_at
text_laws = record {
  found = λ bs r e. bind (after 34 bs) _ r e (λ inside a b. bind (units_within (length inside) inside) _ r b (λ p c d.
      let k = cond_some (is_utf8 p.0) p r d in
      let whole : bs ≡ quoted p.0 ++ p.1 = after_found 34 bs inside a ∙ ap (λ t. 34 ∷ t) (units_found (length inside) inside p c) ∙ ap (λ t. 34 ∷ t) (sym (append_assoc (flat_map escaped p.0) (34 ∷ []) p.1)) in
      subst (λ s. IsUtf8 s.0 × (bs ≡ quoted s.0 ++ s.1)) k.1 (IsUtf8-from_is_utf8 p.0 k.0, whole)));
  again = λ t rest v p. text_again_any t rest v;
  clean = λ t v. quoted_clean t v;
}

pub text_avoids : (k : ℕ) (ks : List ℕ) → (34 == k) ≡ false → Avoids (k ∷ ks) text
unfolding text
text_avoids k ks e x rest v = rw e refl

pub number_laws_64 : IsFormat (number (2 ^ 64))
number_laws_64 = number_laws (2 ^ 64) (lit≤ tt)

pub number_laws_32 : IsFormat (number (2 ^ 32))
number_laws_32 = number_laws (2 ^ 32) (lit≤ tt)

pub number_laws_8 : IsFormat (number (2 ^ 8))
number_laws_8 = number_laws (2 ^ 8) (lit≤ tt)

pub inside_laws : IsFormat inside
unfolding inside inside_at
inside_laws = record {
  found = λ bs r e. bind (units_within (length bs) bs) _ r e (λ p c d.
      let k = cond_some (is_utf8 p.0) p r d in
      let whole : bs ≡ (flat_map escaped p.0 ++ 34 ∷ []) ++ p.1 = units_found (length bs) bs p c ∙ sym (append_assoc (flat_map escaped p.0) (34 ∷ []) p.1) in
      subst (λ s. IsUtf8 s.0 × (bs ≡ (flat_map escaped s.0 ++ 34 ∷ []) ++ s.1)) k.1 (IsUtf8-from_is_utf8 p.0 k.0, whole));
  again = λ t rest v p.
      rw (append_assoc (flat_map escaped t) (34 ∷ []) rest, units_again (length (flat_map escaped t ++ 34 ∷ rest)) t rest (units_long t rest), is_utf8-from_IsUtf8 t v) refl;
  clean = λ t v. inside_clean t v;
}

pub moment_avoids : (k : ℕ) (ks : List ℕ) → (64 == k) ≡ false → Avoids (k ∷ ks) moment
unfolding moment
moment_avoids k ks e = behind_avoids k 64 ks [] (number (suc greatest)) e

pub decimal_letters : (n : ℕ) → n < 2 ^ 64 → list_all is_letter (decimal n) ≡ true
decimal_letters n h = (digits n h).0
