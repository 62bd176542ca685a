-- The laws of forms of a fixed width.
use Rattle.std.proofs.Common.{◌≡◌, ℕ, ◌+◌, ◌-◌, ◌*◌, ◌/◌, ◌%◌, ◌<◌, ◌≤◌, ◌&&◌, true, List, [], ◌∷◌, ◌++◌, Some, refl, sym, ap, subst, ◌∙◌, arith, append_assoc}
use Rattle.std.proofs.lemmas.Bool.Decides.{nat_tests}
use Rattle.std.proofs.lemmas.Option.{none-some, same_Some, cond_some}
use Rattle.text_codec.specs.Lexical.{is_letter, is_plain}
use Rattle.text_codec.specs.Formats.{Format, IsFormat, strip}
use Rattle.text_codec.specs.Exact.{IsExact, beside, before, is_digit, two_at, two}
use Rattle.text_codec.specs.StepLaws.{both, bind, strip_found, strip_again}
use Rattle.text_codec.specs.CleanLaws.{letters_clean, plain_clean, clean_behind, clean_both}

pub beside_exact : {A B : Type 0} (key : List ℕ) (f : Format A) (g : Format B) → is_plain key ≡ true → IsExact f → IsExact g → IsExact (beside key f g)
unfolding beside
beside_exact key f g plain F G = record {
  found = λ bs r e. bind (f.read bs) _ r e (λ p a e1. bind (strip key p.1) _ r e1 (λ rest b e2. bind (g.read rest) _ r e2 (λ q c d.
      let h = F.found bs p a in
      let k = G.found rest q c in
      let whole : bs ≡ (f.spell p.0 ++ (key ++ g.spell q.0)) ++ q.1 =
      h.1 ∙ ap (λ t. f.spell p.0 ++ t) (strip_found key p.1 rest b) ∙ ap (λ t. f.spell p.0 ++ (key ++ t)) k.1 ∙ regroup (f.spell p.0) key (g.spell q.0) q.1 in
      subst (λ s. (f.valid s.0.0 × g.valid s.0.1) × (bs ≡ (f.spell s.0.0 ++ (key ++ g.spell s.0.1)) ++ s.1)) (same_Some _ _ d) ((h.0, k.0), whole))));
  again = λ x rest v.
      rw (sym (regroup (f.spell x.0) key (g.spell x.1) rest), F.again x.0 (key ++ (g.spell x.1 ++ rest)) v.0, strip_again key (g.spell x.1 ++ rest), G.again x.1 rest v.1) refl;
  clean = λ x v. clean_both (f.spell x.0) (key ++ g.spell x.1) (F.clean x.0 v.0) (clean_behind key (g.spell x.1) plain (G.clean x.1 v.1));
}
  where
    regroup : (a b c d : List ℕ) → a ++ (b ++ (c ++ d)) ≡ (a ++ (b ++ c)) ++ d
    regroup a b c d = simp append_assoc

pub before_exact : {A : Type 0} (key : List ℕ) (f : Format A) → is_plain key ≡ true → IsExact f → IsExact (before key f)
unfolding before
before_exact key f plain F = record {
  found = λ bs r e. bind (f.read bs) _ r e (λ p a e1. bind (strip key p.1) _ r e1 (λ rest b d.
      let h = F.found bs p a in
      let whole : bs ≡ (f.spell p.0 ++ key) ++ rest = h.1 ∙ ap (λ t. f.spell p.0 ++ t) (strip_found key p.1 rest b) ∙ sym (append_assoc (f.spell p.0) key rest) in
      subst (λ s. f.valid s.0 × (bs ≡ (f.spell s.0 ++ key) ++ s.1)) (same_Some _ _ d) (h.0, whole)));
  again = λ x rest v. rw (append_assoc (f.spell x) key rest, F.again x (key ++ rest) v, strip_again key rest) refl;
  clean = λ x v. clean_both (f.spell x) key (F.clean x v) (plain_clean key plain);
}

pub exact_laws : {A : Type 0} (f : Format A) → IsExact f → IsFormat f
exact_laws f F = record { found = F.found; again = λ x rest v p. F.again x rest v; clean = F.clean }

digit_least : (b : ℕ) → is_digit b ≡ true → 48 ≤ b
digit_least b h = grind (arith, nat_tests)

digit_most : (b : ℕ) → is_digit b ≡ true → b ≤ 57
digit_most b h = grind (arith, nat_tests)

digit_of : (d : ℕ) → d < 10 → is_digit (48 + d) ≡ true
digit_of d h = grind (arith, nat_tests)

two_found : (bs : List ℕ) (p : ℕ × List ℕ) → two_at bs ≡ Some p → (p.0 < 100) × (bs ≡ (48 + p.0 / 10) ∷ (48 + p.0 % 10) ∷ p.1)
two_found [] p e = absurd (none-some _ e)
two_found (a ∷ []) p e = absurd (none-some _ e)
two_found (a ∷ b ∷ bs) p e =
    let k = cond_some (is_digit a && is_digit b) ((a - 48) * 10 + (b - 48), bs) p e in
    let d = both (is_digit a) (is_digit b) k.0 in
    let a1 = digit_least a d.0 in
    let a2 = digit_most a d.0 in
    let b1 = digit_least b d.1 in
    let b2 = digit_most b d.1 in
    let high : a ≡ 48 + ((a - 48) * 10 + (b - 48)) / 10 = omega (arith, a1, a2, b1, b2) in
    let low : b ≡ 48 + ((a - 48) * 10 + (b - 48)) % 10 = omega (arith, a1, a2, b1, b2) in
    let small : (a - 48) * 10 + (b - 48) < 100 = omega (arith, a1, a2, b1, b2) in
    subst (λ (q : ℕ × List ℕ). (q.0 < 100) × (a ∷ b ∷ bs ≡ (48 + q.0 / 10) ∷ (48 + q.0 % 10) ∷ q.1)) k.1
    (small, ap (λ x. x ∷ b ∷ bs) high ∙ ap (λ y. (48 + ((a - 48) * 10 + (b - 48)) / 10) ∷ y ∷ bs) low)

two_again : (n : ℕ) (rest : List ℕ) → n < 100 → two_at ((48 + n / 10) ∷ (48 + n % 10) ∷ rest) ≡ Some (n, rest)
two_again n rest v =
    let value : (48 + n / 10 - 48) * 10 + (48 + n % 10 - 48) ≡ n = omega (arith, v) in
    rw (digit_of (n / 10) (omega (arith, v)), digit_of (n % 10) (omega arith), value) refl

digit_letter : (d : ℕ) → d < 10 → is_letter (48 + d) ≡ true
digit_letter d h = grind (arith, nat_tests)

two_letters : (n : ℕ) → n < 100 → is_letter (48 + n / 10) && (is_letter (48 + n % 10) && true) ≡ true
two_letters n v = rw (digit_letter (n / 10) (omega (arith, v)), digit_letter (n % 10) (omega arith)) refl

pub two_exact : IsExact two
unfolding two
two_exact = record { found = two_found; again = two_again; clean = λ n v. letters_clean ((48 + n / 10) ∷ (48 + n % 10) ∷ []) (two_letters n v) }
