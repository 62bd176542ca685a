-- The laws of forms.
use Rattle.std.proofs.Common.{◌≡◌, ℕ, ◌&&◌, Bool, true, false, List, [], ◌∷◌, ◌++◌, Option, Some, None, refl, sym, ap, subst, ◌∙◌, append_assoc, append-nil}
use Rattle.std.specs.List.{list_all}
use Rattle.std.proofs.lemmas.Option.{none-some, same_Some, cond_some}
use Rattle.text_codec.specs.Lexical.{is_letter, parts, is_plain, IsClean}
use Rattle.text_codec.specs.Formats.{Format, IsFormat, Avoids, strip, apart, first_word, behind_word, worded, behind, pair, mapped, or_else, spell_or, valid_or, read_or, checked, tagged, is_tag, spell_tagged, read_tagged, whole, read_line}
use Rattle.text_codec.specs.StepLaws.{both, bind, chosen, strip_found, strip_again, strip_apart, word_again, word_whole}
use Rattle.text_codec.specs.CleanLaws.{letters_clean, plain_clean, clean_behind, clean_both}

-- a value that is one word
pub worded_laws : {A : Type 0} (text : A → List ℕ) (valid : A → Type 0) (value : List ℕ → Option A)
    → ((w : List ℕ) (x : A) → value w ≡ Some x → valid x × (w ≡ text x))
    → ((x : A) → valid x → (value (text x) ≡ Some x) × (list_all is_letter (text x) ≡ true))
    → IsFormat (worded text valid value)
worded_laws text valid value found again = record {
  found = λ bs p e. bind (value (first_word bs)) _ p e (λ x a b.
      let h = found (first_word bs) x a in
      let whole : bs ≡ text x ++ behind_word bs = word_whole bs ∙ ap (λ w. w ++ behind_word bs) h.1 in
      subst (λ q. valid q.0 × (bs ≡ text q.0 ++ q.1)) (same_Some _ _ b) (h.0, whole));
  again = λ x rest v p.
      let h = again x v in
      let w = word_again (text x) rest h.1 p in
      rw (w.0, w.1, h.0) refl;
  clean = λ x v. letters_clean (text x) (again x v).1;
}

pub behind_laws : {A : Type 0} (key : List ℕ) (f : Format A) → is_plain key ≡ true → IsFormat f → IsFormat (behind key f)
unfolding behind
behind_laws key f plain laws = record {
  found = λ bs p e. bind (strip key bs) _ p e (λ rest a b.
      let h = laws.found rest p b in
      (h.0, strip_found key bs rest a ∙ ap (λ r. key ++ r) h.1 ∙ sym (append_assoc key (f.spell p.0) p.1)));
  again = λ x rest v p. rw (append_assoc key (f.spell x) rest, strip_again key (f.spell x ++ rest)) (laws.again x rest v p);
  clean = λ x v. clean_behind key (f.spell x) plain (laws.clean x v);
}

pub pair_laws : {A B : Type 0} (f : Format A) (g : Format B) → IsFormat f → IsFormat g → IsFormat (pair f g)
unfolding pair
pair_laws f g F G = record {
  found = λ bs r e. bind (f.read bs) _ r e (λ p a e'. bind (strip (32 ∷ []) p.1) _ r e' (λ rest b e''. bind (g.read rest) _ r e'' (λ q c d.
      let h = F.found bs p a in
      let k = G.found rest q c in
      let whole : bs ≡ (f.spell p.0 ++ 32 ∷ g.spell q.0) ++ q.1 =
      h.1 ∙ ap (λ t. f.spell p.0 ++ t) (strip_found (32 ∷ []) p.1 rest b) ∙ ap (λ t. f.spell p.0 ++ 32 ∷ t) k.1 ∙ sym (append_assoc (f.spell p.0) (32 ∷ g.spell q.0) q.1) in
      subst (λ s. (f.valid s.0.0 × g.valid s.0.1) × (bs ≡ (f.spell s.0.0 ++ 32 ∷ g.spell s.0.1) ++ s.1)) (same_Some _ _ d) ((h.0, k.0), whole))));
  again = λ x rest v p.
      rw (append_assoc (f.spell x.0) (32 ∷ g.spell x.1) rest, F.again x.0 (32 ∷ (g.spell x.1 ++ rest)) v.0 refl, G.again x.1 rest v.1 p) refl;
  clean = λ x v. clean_both (f.spell x.0) (32 ∷ g.spell x.1) (F.clean x.0 v.0) (clean_behind (32 ∷ []) (g.spell x.1) refl (G.clean x.1 v.1));
}

pub mapped_laws : {A B : Type 0} (make : A → B) (apply : B → A) (f : Format A) → IsFormat f → ((x : A) → f.valid x → apply (make x) ≡ x) → ((y : B) → f.valid (apply y) → make (apply y) ≡ y) → IsFormat (mapped make apply f)
unfolding mapped
mapped_laws make apply f F here there = record {
  found = λ bs r e. bind (f.read bs) _ r e (λ p a d.
      let h = F.found bs p a in
      let back = sym (here p.0 h.0) in
      subst (λ s. f.valid (apply s.0) × (bs ≡ f.spell (apply s.0) ++ s.1)) (same_Some _ _ d) (subst f.valid back h.0, h.1 ∙ ap (λ t. f.spell t ++ p.1) back));
  again = λ y rest v p. rw (F.again (apply y) rest v p, there y v) refl;
  clean = λ y v. F.clean (apply y) v;
}

pub or_else_laws : {A : Type 0} (dash : List ℕ) (f : Format A) → is_plain dash ≡ true → IsFormat f → Avoids dash f → IsFormat (or_else dash f)
unfolding or_else
or_else_laws dash f plain F avoids = record { found = or_found dash f F; again = or_again dash f F avoids; clean = or_clean dash f plain F }
  where
    or_found : {A : Type 0} (dash : List ℕ) (f : Format A) → IsFormat f → (bs : List ℕ) (r : Option A × List ℕ) → read_or dash f.read bs ≡ Some r → valid_or f.valid r.0 × (bs ≡ spell_or dash f.spell r.0 ++ r.1)
    or_found dash f F bs r e = chosen (strip dash bs) _ _ _ e
        (λ rest a b. subst (λ s. valid_or f.valid s.0 × (bs ≡ spell_or dash f.spell s.0 ++ s.1)) (same_Some _ _ b) (tt, strip_found dash bs rest a))
        (λ a b. bind (f.read bs) _ r b (λ p c d. subst (λ s. valid_or f.valid s.0 × (bs ≡ spell_or dash f.spell s.0 ++ s.1)) (same_Some _ _ d) (F.found bs p c)))

    or_again : {A : Type 0} (dash : List ℕ) (f : Format A) → IsFormat f → Avoids dash f → (x : Option A) (rest : List ℕ) → valid_or f.valid x → parts rest ≡ true
        → read_or dash f.read (spell_or dash f.spell x ++ rest) ≡ Some (x, rest)
    or_again dash f F avoids None rest v p = rw (strip_again dash rest) refl
    or_again dash f F avoids (Some x) rest v p = rw (avoids x rest v, F.again x rest v p) refl

    or_clean : {A : Type 0} (dash : List ℕ) (f : Format A) → is_plain dash ≡ true → IsFormat f → (x : Option A) → valid_or f.valid x → IsClean (spell_or dash f.spell x)
    or_clean dash f plain F None v = plain_clean dash plain
    or_clean dash f plain F (Some x) v = F.clean x v

pub checked_laws : {A : Type 0} (test : A → Bool) (f : Format A) → IsFormat f → IsFormat (checked test f)
unfolding checked
checked_laws test f F = record {
  found = λ bs r e. bind (f.read bs) _ r e (λ p a b.
      let k = cond_some (test p.0) p r b in
      let m = F.found bs p a in
      subst (λ s. (f.valid s.0 × (test s.0 ≡ true)) × (bs ≡ f.spell s.0 ++ s.1)) k.1 ((m.0, k.0), m.1));
  again = λ x rest v p. rw (F.again x rest v.0 p, v.1) refl;
  clean = λ x v. F.clean x v.0;
}

pub tagged_laws : {A : Type 0} (key other : List ℕ) (f : Format A) → is_tag key other ≡ true → IsFormat f → IsFormat (tagged key other f)
unfolding tagged
tagged_laws key other f tag F =
    let t = both (apart key other) (is_plain key && is_plain other) tag in
    let plain = both (is_plain key) (is_plain other) t.1 in
    record { found = tagged_found key other f F; again = tagged_again key other f F t.0; clean = tagged_clean key other f plain.0 plain.1 F }
  where
    tagged_found : {A : Type 0} (key other : List ℕ) (f : Format A) → IsFormat f → (bs : List ℕ) (r : (Bool × A) × List ℕ) → read_tagged key other f.read bs ≡ Some r → f.valid r.0.1 × (bs ≡ spell_tagged key other f.spell r.0 ++ r.1)
    tagged_found {A = A} key other f F bs r e =
        let P : (Bool × A) × List ℕ → Type 0 = λ s. f.valid s.0.1 × (bs ≡ spell_tagged key other f.spell s.0 ++ s.1) in
        chosen (strip key bs) _ _ _ e
        (λ rest b c. bind (f.read rest) _ r c (λ p d g. let m = F.found rest p d in
        subst P (same_Some _ _ g) (m.0, strip_found key bs rest b ∙ ap (λ t. key ++ t) m.1 ∙ sym (append_assoc key (f.spell p.0) p.1))))
        (λ b c. bind (strip other bs) _ r c (λ rest h c'. bind (f.read rest) _ r c' (λ p d g. let m = F.found rest p d in
        subst P (same_Some _ _ g) (m.0, strip_found other bs rest h ∙ ap (λ t. other ++ t) m.1 ∙ sym (append_assoc other (f.spell p.0) p.1)))))

    tagged_again : {A : Type 0} (key other : List ℕ) (f : Format A) → IsFormat f → apart key other ≡ true → (x : Bool × A) (rest : List ℕ) → f.valid x.1 → parts rest ≡ true
        → read_tagged key other f.read (spell_tagged key other f.spell x ++ rest) ≡ Some (x, rest)
    tagged_again key other f F a (true, x) rest v p = rw (append_assoc key (f.spell x) rest, strip_again key (f.spell x ++ rest), F.again x rest v p) refl
    tagged_again key other f F a (false, x) rest v p =
        rw (append_assoc other (f.spell x) rest, strip_apart key other (f.spell x ++ rest) a, strip_again other (f.spell x ++ rest), F.again x rest v p) refl

    tagged_clean : {A : Type 0} (key other : List ℕ) (f : Format A) → is_plain key ≡ true → is_plain other ≡ true → IsFormat f → (x : Bool × A) → f.valid x.1 → IsClean (spell_tagged key other f.spell x)
    tagged_clean key other f k o F (true, x) v = clean_behind key (f.spell x) k (F.clean x v)
    tagged_clean key other f k o F (false, x) v = clean_behind other (f.spell x) o (F.clean x v)

-- a whole line: what is read was spelled so, and what is spelled so is read
pub whole_found : {A : Type 0} (x y : A) (bs : List ℕ) → whole x bs ≡ Some y → (x ≡ y) × (bs ≡ [])
whole_found x y [] e = (same_Some x y e, refl)
whole_found x y (b ∷ bs) e = absurd (none-some _ e)

pub line_found : {A : Type 0} (f : Format A) → IsFormat f → (line : List ℕ) (x : A) → read_line f line ≡ Some x → f.valid x × (line ≡ f.spell x)
line_found f F line x e = bind (f.read line) _ x e (λ p a b.
    let k = whole_found p.0 x p.1 b in
    let h = F.found line p a in
    subst (λ y. f.valid y × (line ≡ f.spell y)) k.0 (h.0, h.1 ∙ ap (λ r. f.spell p.0 ++ r) k.1 ∙ append-nil (f.spell p.0)))

pub line_again : {A : Type 0} (f : Format A) → IsFormat f → (x : A) → f.valid x → read_line f (f.spell x) ≡ Some x
line_again f F x v = let h = ap f.read (sym (append-nil (f.spell x))) ∙ F.again x [] v refl in rw h refl

-- two values that are spelled alike are one
pub one_spelled : {A : Type 0} (f : Format A) → IsFormat f → (x y : A) → f.valid x → f.valid y → f.spell x ≡ f.spell y → x ≡ y
one_spelled f F x y v w e = same_Some _ _ (sym (line_again f F x v) ∙ ap (read_line f) e ∙ line_again f F y w)
