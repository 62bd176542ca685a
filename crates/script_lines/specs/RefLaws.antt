-- The laws of references.
use Rattle.std.proofs.Common.{◌≡◌, ℕ, ◌^◌, ◌==◌, ◌&&◌, nat_le, Bool, true, false, List, [], ◌∷◌, ◌++◌, length, Option, Some, None, decimal, codes, lit≤, refl, sym, ap, subst, ◌∙◌, arith, append-nil}
use Rattle.std.specs.List.{list_all}
use Rattle.std.proofs.lemmas.Bool.Decides.{nat_tests}
use Rattle.std.proofs.lemmas.List.Folds.{list_all-append}
use Rattle.std.proofs.lemmas.Option.{none-some, same_Some, cond_some}
use Rattle.text_codec.specs.Lexical.{is_letter}
use Rattle.text_codec.specs.Formats.{IsFormat, strip, number_of}
use Rattle.text_codec.specs.Words.{is_lower, is_in_name, is_name, passing}
use Rattle.text_codec.specs.WordLaws.{all_in_name, name_letters}
use Rattle.text_codec.specs.StepLaws.{both, by_test, true_false, bind, chosen, strip_found}
use Rattle.text_codec.specs.FormatLaws.{worded_laws}
use Rattle.text_codec.specs.BaseLaws.{number_found, number_again, decimal_letters}
use Rattle.script_lines.specs.declared.refs.Ref.{Ref}
use Rattle.script_lines.specs.declared.refs.Ref.TheVariants.{Bound, Member, Number}
use Rattle.script_lines.specs.Refs.{ref_text, IsRef, onto_part, at_dot, ref_of, reference}

pub and_true : (a b : Bool) → a ≡ true → b ≡ true → (a && b) ≡ true
and_true a b p q = rw (p, q) refl

name_dot : (b : ℕ) → is_in_name b ≡ true → (b == 46) ≡ false
name_dot b h = grind (arith, nat_tests)

lower_hash : (b : ℕ) → is_lower b ≡ true → (b == 35) ≡ false
lower_hash b h = grind (arith, nat_tests)

name_found : (w x : List ℕ) → passing is_name w ≡ Some x → (is_name x ≡ true) × (w ≡ x)
name_found w x e = let k = cond_some (is_name w) w x e in subst (λ v. (is_name v ≡ true) × (w ≡ v)) k.1 (k.0, refl)

name_again : (w : List ℕ) → is_name w ≡ true → passing is_name w ≡ Some w
name_again w h = rw h refl

-- parts at a dot
dot_found : (w : List ℕ) (p : List ℕ × List ℕ) → at_dot w ≡ Some p → w ≡ p.0 ++ 46 ∷ p.1
dot_found [] p e = absurd (none-some _ e)
dot_found (b ∷ bs) p e = by_test (b == 46)
    (λ t. let dot : b ≡ 46 = grind (arith, nat_tests) in subst (λ (q : List ℕ × List ℕ). b ∷ bs ≡ q.0 ++ 46 ∷ q.1) (same_Some _ _ (rw t at e)) (ap (λ c. c ∷ bs) dot))
    (λ f. onto_found (at_dot bs) (dot_found bs) (rw f at e))
  where
    onto_found : (o : Option (List ℕ × List ℕ)) → ((q : List ℕ × List ℕ) → o ≡ Some q → bs ≡ q.0 ++ 46 ∷ q.1) → onto_part b o ≡ Some p → b ∷ bs ≡ p.0 ++ 46 ∷ p.1
    onto_found None more k = absurd (none-some _ k)
    onto_found (Some q) more k = subst (λ (r : List ℕ × List ℕ). b ∷ bs ≡ r.0 ++ 46 ∷ r.1) (same_Some _ _ k) (ap (λ r. b ∷ r) (more q refl))

dot_again : (w d : List ℕ) → list_all is_in_name w ≡ true → at_dot (w ++ 46 ∷ d) ≡ Some (w, d)
dot_again [] d h = refl
dot_again (b ∷ bs) d h = let t = both (is_in_name b) (list_all is_in_name bs) h in rw (name_dot b t.0, dot_again bs d t.1) refl

dot_none : (w : List ℕ) → list_all is_in_name w ≡ true → ◌≡◌ {A = Option (List ℕ × List ℕ)} (at_dot w) None
dot_none [] h = refl
dot_none (b ∷ bs) h = let t = both (is_in_name b) (list_all is_in_name bs) h in rw (name_dot b t.0, dot_none bs t.1) refl

no_hash : (w d : List ℕ) → is_name w ≡ true → ◌≡◌ {A = Option (List ℕ)} (strip (codes "#") (w ++ d)) None
no_hash [] d h = absurd (true_false (sym h))
no_hash (b ∷ bs) d h = let t = both (is_lower b && nat_le (length bs) 31) (list_all is_in_name bs) h in rw (lower_hash b (both (is_lower b) (nat_le (length bs) 31) t.0).0) refl

ref_found : (w : List ℕ) (r : Ref) → ref_of w ≡ Some r → IsRef r × (w ≡ ref_text r)
unfolding ref_of
ref_found w r e = chosen (strip (codes "#") w) _ _ _ e
    (λ d a b. bind (number_of (2 ^ 64) d) _ r b (λ n c f.
    let h = number_found (2 ^ 64) d n c in
    subst (λ q. IsRef q × (w ≡ ref_text q)) (same_Some _ _ f) (h.0, strip_found (codes "#") w d a ∙ ap (λ t. 35 ∷ t) h.1)))
    (λ a b. chosen (at_dot w) _ _ _ b
    (λ p c d. bind (passing is_name p.0) _ r d (λ n f g. bind (number_of (2 ^ 32) p.1) _ r g (λ i h k.
    let m = name_found p.0 n f in
    let j = number_found (2 ^ 32) p.1 i h in
    subst (λ q. IsRef q × (w ≡ ref_text q)) (same_Some _ _ k) ((m.0, j.0), dot_found w p c ∙ ap (λ t. t ++ 46 ∷ p.1) m.1 ∙ ap (λ t. n ++ 46 ∷ t) j.1))))
    (λ c d. bind (passing is_name w) _ r d (λ n f g.
    let m = name_found w n f in
    subst (λ q. IsRef q × (w ≡ ref_text q)) (same_Some _ _ g) (m.0, m.1))))

ref_letters : (r : Ref) → IsRef r → list_all is_letter (ref_text r) ≡ true
ref_letters (Bound n) v = name_letters n v
ref_letters (Member array index) v = list_all-append is_letter array (46 ∷ decimal index) ∙ and_true _ _ (name_letters array v.0) (decimal_letters index (omega (arith, v.1)))
ref_letters (Number n) v = decimal_letters n v

ref_again : (r : Ref) → IsRef r → ref_of (ref_text r) ≡ Some r
unfolding ref_of
ref_again (Bound n) v =
    let hash : ◌≡◌ {A = Option (List ℕ)} (strip (codes "#") n) None = ap (strip (codes "#")) (sym (append-nil n)) ∙ no_hash n [] v in
    rw (hash, dot_none n (all_in_name n v), name_again n v) refl
ref_again (Member array index) v =
    rw (no_hash array (46 ∷ decimal index) v.0, dot_again array (decimal index) (all_in_name array v.0), name_again array v.0, number_again (2 ^ 32) index (lit≤ tt) v.1) refl
ref_again (Number n) v = rw (number_again (2 ^ 64) n (lit≤ tt) v) refl

pub ref_laws : IsFormat reference
unfolding reference
ref_laws = worded_laws ref_text IsRef ref_of ref_found (λ r v. (ref_again r v, ref_letters r v))
