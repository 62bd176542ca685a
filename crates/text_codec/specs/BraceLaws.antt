-- The laws of fields in braces.
use Rattle.std.proofs.Common.{◌≡◌, ℕ, ◌==◌, true, List, [], ◌∷◌, ◌++◌, Some, None, codes, refl, sym, ap, subst, ◌∙◌, arith, lit<, append_assoc}
use Rattle.std.specs.List.{list_all}
use Rattle.std.proofs.lemmas.Bool.Decides.{nat_tests}
use Rattle.std.proofs.lemmas.Option.{none-some, same_Some}
use Rattle.std.proofs.lemmas.Str.{IsUtf8-past_char, encode_ascii}
use Rattle.text_codec.specs.Lexical.{IsClean, no_feed}
use Rattle.text_codec.specs.Formats.{IsFormat, strip, apart}
use Rattle.text_codec.specs.Fields.{Fields, AreFields, clear, led}
use Rattle.text_codec.specs.Braces.{braced, fronted, is_inside, opened, braces}
use Rattle.text_codec.specs.StepLaws.{both, by_test, bind, strip_found}
use Rattle.text_codec.specs.CleanLaws.{plain_clean, clean_behind, clean_both}

heads : (a b : ℕ) (xs ys : List ℕ) → a ∷ xs ≡ b ∷ ys → (a ≡ b) × (xs ≡ ys)
heads a b xs ys e = (cc, cc)

-- what stands behind the brace was spelled so
inside_found : (a s rest : List ℕ) → led s ≡ true → fronted (is_inside a) a ≡ s ++ 125 ∷ rest → 123 ∷ a ≡ braced s ++ rest
inside_found [] [] rest l e = cc
inside_found [] (c ∷ cs) rest l e = cc
inside_found (b ∷ bs) s rest l e = by_test (b == 125)
    (λ t. closed s l (grind (arith, nat_tests)) (rw t at e))
    (λ f. within s l (rw f at e))
  where
    closed : (s : List ℕ) → led s ≡ true → b ≡ 125 → b ∷ bs ≡ s ++ 125 ∷ rest → 123 ∷ b ∷ bs ≡ braced s ++ rest
    closed [] l last e = ap (λ r. 123 ∷ r) e
    closed (c ∷ cs) l last e =
        let first : c ≡ 32 = grind (arith, nat_tests) in
        absurd (omega (arith, first, last, (heads b c bs (cs ++ 125 ∷ rest) e).0))

    within : (s : List ℕ) → led s ≡ true → 32 ∷ b ∷ bs ≡ s ++ 125 ∷ rest → 123 ∷ b ∷ bs ≡ braced s ++ rest
    within [] l e = absurd (omega (arith, (heads 32 125 (b ∷ bs) rest e).0))
    within (c ∷ cs) l e = ap (λ r. 123 ∷ r) ((heads 32 c (b ∷ bs) (cs ++ 125 ∷ rest) e).1 ∙ sym (append_assoc cs (125 ∷ []) rest))

-- what was spelled so stands behind the brace again
inside_again : (s rest : List ℕ) → led s ≡ true → strip (codes " }") (s ++ 125 ∷ rest) ≡ None → opened (braced s ++ rest) ≡ Some (s ++ 125 ∷ rest)
unfolding opened
inside_again [] rest l n = refl
inside_again (c ∷ cs) rest l n =
    let space : c ≡ 32 = grind (arith, nat_tests) in
    let more : strip (codes "}") (cs ++ 125 ∷ rest) ≡ None = rw space at n in
    rw (append_assoc cs (125 ∷ []) rest, is_open cs more, space) refl
  where
    some_left : (bs : List ℕ) (b : ℕ) → strip (codes "}") (b ∷ bs) ≡ None → is_inside (b ∷ bs) ≡ true
    some_left bs b n = by_test (b == 125) (λ t. absurd (none-some _ (sym (rw t at n)))) (λ f. rw f refl)

    is_open : (a : List ℕ) → strip (codes "}") (a ++ 125 ∷ rest) ≡ None → is_inside (a ++ 125 ∷ rest) ≡ true
    is_open [] n = absurd (none-some _ (sym n))
    is_open (b ∷ bs) n = some_left (bs ++ 125 ∷ rest) b n

braced_clean : (s : List ℕ) → led s ≡ true → IsClean s → IsClean (braced s)
braced_clean [] l c = plain_clean (codes "{}") refl
braced_clean (b ∷ bs) l c =
    let space : b ≡ 32 = grind (arith, nat_tests) in
    let whole : b ∷ bs ≡ (32 ∷ []) ++ bs = ap (λ x. x ∷ bs) space in
    let more : IsClean bs = record {
      one_line = (both (no_feed b) (list_all no_feed bs) c.one_line).1;
      utf8 = IsUtf8-past_char (b ∷ bs) bs 32 c.utf8 (whole ∙ ap (λ e. e ++ bs) (sym (encode_ascii 32 (lit< tt))));
    } in
    clean_behind (123 ∷ []) (bs ++ 125 ∷ []) refl (clean_both bs (125 ∷ []) more (plain_clean (125 ∷ []) refl))

pub braces_laws : {A : Type 0} (fs : Fields A) → AreFields fs → list_all (apart (codes " }")) fs.keys ≡ true → ((rest : List ℕ) → clear fs.barred (125 ∷ rest) ≡ true) → IsFormat (braces fs)
unfolding braces opened
braces_laws fs F new closed = record {
  found = λ bs r e. bind (opened bs) _ r e (λ a i j. bind (fs.body.read a) _ r j (λ p g h. bind (strip (codes "}") p.1) _ r h (λ rest k l.
      bind (strip (codes "{") bs) _ a i (λ u m n.
      let h1 = F.found a p g in
      let same : fronted (is_inside u) u ≡ fs.body.spell p.0 ++ 125 ∷ rest = same_Some _ _ n ∙ h1.1 ∙ ap (λ t. fs.body.spell p.0 ++ t) (strip_found (codes "}") p.1 rest k) in
      let whole : bs ≡ braced (fs.body.spell p.0) ++ rest = strip_found (codes "{") bs u m ∙ inside_found u (fs.body.spell p.0) rest (F.leads p.0) same in
      subst (λ s. fs.body.valid s.0 × (bs ≡ braced (fs.body.spell s.0) ++ s.1)) (same_Some _ _ l) (h1.0, whole)))));
  again = λ x rest v p.
      rw (inside_again (fs.body.spell x) rest (F.leads x) (F.skips (codes " }") x (125 ∷ rest) new refl), F.again x (125 ∷ rest) v refl (closed rest)) refl;
  clean = λ x v. braced_clean (fs.body.spell x) (F.leads x) (F.clean x v);
}
