-- The laws of whole numbers.
use Rattle.std.proofs.Common.{◌≡◌, ℕ, zero, suc, ◌<◌, ◌^◌, pos, negsuc, true, List, [], ◌∷◌, Some, None, decimal, codes, lit≤, refl, sym, ap, subst, append-nil, ◌∙◌, arith}
use Rattle.std.specs.Prelude.{ℤ}
use Rattle.std.specs.List.{list_all}
use Rattle.std.proofs.lemmas.Option.{none-some, same_Some}
use Rattle.text_codec.specs.Lexical.{is_letter}
use Rattle.text_codec.specs.Formats.{IsFormat, strip, number, number_of}
use Rattle.text_codec.specs.Integers.{signed, Within, negative, integer_of, integer}
use Rattle.text_codec.specs.StepLaws.{bind, chosen, strip_found}
use Rattle.text_codec.specs.FormatLaws.{worded_laws}
use Rattle.text_codec.specs.BaseLaws.{number_found, number_again, number_avoids, decimal_letters}

negative_found : (bound n : ℕ) (z : ℤ) → n < suc bound → negative n ≡ Some z → Within bound z × (45 ∷ decimal n ≡ signed z)
negative_found bound zero z l e = absurd (none-some _ e)
negative_found bound (suc n) z l e = subst (λ q. Within bound q × (45 ∷ decimal (suc n) ≡ signed q)) (same_Some _ _ e) (omega (arith, l), refl)

integer_found : (bound : ℕ) (w : List ℕ) (z : ℤ) → integer_of bound w ≡ Some z → Within bound z × (w ≡ signed z)
unfolding integer_of
integer_found bound w z e = chosen (strip (codes "-") w) _ _ _ e
    (λ d a b. bind (number_of (suc bound) d) _ z b (λ n c f.
    let h = number_found (suc bound) d n c in
    let k = negative_found bound n z h.0 f in
    (k.0, strip_found (codes "-") w d a ∙ ap (λ t. 45 ∷ t) h.1 ∙ k.1)))
    (λ a b. bind (number_of bound w) _ z b (λ n c f. subst (λ q. Within bound q × (w ≡ signed q)) (same_Some _ _ f) (number_found bound w n c)))

-- no number begins with a sign
no_sign : (bound n : ℕ) → bound < 2 ^ 64 → n < bound → strip (codes "-") (decimal n) ≡ None
unfolding number
no_sign bound n b l = ap (strip (codes "-")) (sym (append-nil (decimal n))) ∙ number_avoids bound 45 (omega (arith, b)) (λ low high. absurd (omega (arith, low))) [] n [] l

integer_again : (bound : ℕ) (z : ℤ) → bound < 2 ^ 64 → Within bound z → integer_of bound (signed z) ≡ Some z
unfolding integer_of
integer_again bound (pos n) b v = rw (no_sign bound n b v, number_again bound n (omega (arith, b)) v) refl
integer_again bound (negsuc n) b v = rw (number_again (suc bound) (suc n) (omega (arith, b)) (omega (arith, v))) refl

integer_letters : (bound : ℕ) (z : ℤ) → bound < 2 ^ 64 → Within bound z → list_all is_letter (signed z) ≡ true
integer_letters bound (pos n) b v = decimal_letters n (omega (arith, b, v))
integer_letters bound (negsuc n) b v = decimal_letters (suc n) (omega (arith, b, v))

pub integer_laws : (bound : ℕ) → bound < 2 ^ 64 → IsFormat (integer bound)
unfolding integer
integer_laws bound b = worded_laws signed (Within bound) (integer_of bound) (integer_found bound) (λ z v. (integer_again bound z b v, integer_letters bound z b v))

pub integer_laws_32 : IsFormat (integer (2 ^ 31))
integer_laws_32 = integer_laws (2 ^ 31) (lit≤ tt)
