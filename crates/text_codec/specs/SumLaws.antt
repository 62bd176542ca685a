-- The laws of sums: two lines for each form of one, and one for the whole.
use Rattle.std.proofs.Common.{◌≡◌, ℕ, true, List, [], ◌∷◌, ◌++◌, Option, Some, refl, sym, ap, subst, ◌∙◌, append_assoc}
use Rattle.std.specs.List.{list_all, list_any}
use Rattle.std.proofs.lemmas.Option.{same_Some}
use Rattle.text_codec.specs.Lexical.{is_letter, parts}
use Rattle.std.specs.Str.{bytes_eq}
use Rattle.std.proofs.lemmas.Slice.Eq.{bytes_eq-Decides}
use Rattle.text_codec.specs.Formats.{Format, IsFormat, strip, first_word, behind_word, first_spelled}
use Rattle.text_codec.specs.Fields.{Fields, AreFields, IsFormatUpTo, clear, is_none}
use Rattle.text_codec.specs.Sums.{Spelled, alone, keyed, fielded, arm_alone, arm, arm_fields, read_sum, sum_of, IsArm, Stands, covers}
use Rattle.text_codec.specs.StepLaws.{both, by_test, true_false, bind, strip_found, word_again, word_whole, first_found}
use Rattle.text_codec.specs.CleanLaws.{letters_clean, clean_behind, clean_both}
use Rattle.text_codec.specs.FieldLaws.{parted}

-- What was read by an arm was spelled so: one line for each word.
pub alone_found : {B : Type 0} (form : B → Spelled) (word : List ℕ) (y : B) → form y ≡ alone word → IsArm form word (arm_alone y)
alone_found form word y same bs p e =
    subst (λ s. (form s.0).valid × (word ++ bs ≡ (form s.0).text ++ s.1)) (same_Some _ _ e) (subst (λ (s : Spelled). s.valid × (word ++ bs ≡ s.text ++ bs)) (sym same) (tt, refl))

pub keyed_found : {A B : Type 0} (form : B → Spelled) (word : List ℕ) (f : Format A) (make : A → B) → IsFormat f → ((x : A) → form (make x) ≡ keyed word f x) → IsArm form word (arm f make)
keyed_found form word f make F same bs p e = bind (strip (32 ∷ []) bs) _ p e (λ rest a b. bind (f.read rest) _ p b (λ q c d.
    let m = F.found rest q c in
    let whole : word ++ bs ≡ (word ++ 32 ∷ f.spell q.0) ++ q.1 = ap (λ t. word ++ t) (strip_found (32 ∷ []) bs rest a) ∙ ap (λ t. word ++ 32 ∷ t) m.1 ∙ sym (append_assoc word (32 ∷ f.spell q.0) q.1) in
    subst (λ s. (form s.0).valid × (word ++ bs ≡ (form s.0).text ++ s.1)) (same_Some _ _ d) (subst (λ (s : Spelled). s.valid × (word ++ bs ≡ s.text ++ q.1)) (sym (same q.0)) (m.0, whole))))

pub fielded_found : {A B : Type 0} (form : B → Spelled) (word : List ℕ) (fs : Fields A) (make : A → B) → AreFields fs → ((x : A) → form (make x) ≡ fielded word fs x) → IsArm form word (arm_fields fs make)
fielded_found form word fs make F same bs p e = bind (fs.body.read bs) _ p e (λ q c d.
    let m = F.found bs q c in
    let whole : word ++ bs ≡ (word ++ fs.body.spell q.0) ++ q.1 = ap (λ t. word ++ t) m.1 ∙ sym (append_assoc word (fs.body.spell q.0) q.1) in
    subst (λ s. (form s.0).valid × (word ++ bs ≡ (form s.0).text ++ s.1)) (same_Some _ _ d) (subst (λ (s : Spelled). s.valid × (word ++ bs ≡ s.text ++ q.1)) (sym (same q.0)) (m.0, whole)))

-- the word of a sum is read
word_read : {K A : Type 0} (text : K → List ℕ) (all : List K) (arms : K → List ℕ → Option (A × List ℕ)) (k : K) (tail : List ℕ) → first_spelled text all (text k) ≡ Some k → list_all is_letter (text k) ≡ true → parts tail ≡ true
    → read_sum text all arms (text k ++ tail) ≡ arms k tail
word_read text all arms k tail here letters p = let w = word_again (text k) tail letters p in rw (w.0, w.1, here) refl

-- What is spelled so is read by its arm: one line for each form of a sum.
pub alone_stands : {K B : Type 0} (text : K → List ℕ) (all : List K) (arms : K → List ℕ → Option (B × List ℕ)) (barred : List (List ℕ)) (k : K) (y : B)
    → first_spelled text all (text k) ≡ Some k → list_all is_letter (text k) ≡ true → ((bs : List ℕ) → arms k bs ≡ arm_alone y bs) → Stands (read_sum text all arms) barred y (alone (text k))
alone_stands text all arms barred k y here letters same = record {
  again = λ tail v p c. word_read text all arms k tail here letters p ∙ same tail;
  clean = λ v. letters_clean (text k) letters;
}

pub keyed_stands : {K A B : Type 0} (text : K → List ℕ) (all : List K) (arms : K → List ℕ → Option (B × List ℕ)) (barred : List (List ℕ)) (k : K) (f : Format A) (make : A → B) (F : IsFormat f) (x : A)
    → first_spelled text all (text k) ≡ Some k → list_all is_letter (text k) ≡ true → ((bs : List ℕ) → arms k bs ≡ arm f make bs) → Stands (read_sum text all arms) barred (make x) (keyed (text k) f x)
keyed_stands text all arms barred k f make F x here letters same = record {
  again = λ tail v p c.
      let whole : arm f make (32 ∷ (f.spell x ++ tail)) ≡ Some (make x, tail) = rw (F.again x tail v p) refl in
      ap (read_sum text all arms) (append_assoc (text k) (32 ∷ f.spell x) tail) ∙ word_read text all arms k (32 ∷ (f.spell x ++ tail)) here letters refl ∙ same (32 ∷ (f.spell x ++ tail)) ∙ whole;
  clean = λ v. clean_both (text k) (32 ∷ f.spell x) (letters_clean (text k) letters) (clean_behind (32 ∷ []) (f.spell x) refl (F.clean x v));
}

-- where none of some keys stands, none of these among them does
among : (k : List ℕ) (all : List (List ℕ)) (tail : List ℕ) → list_any (λ j. bytes_eq j k) all ≡ true → clear all tail ≡ true → is_none (strip k tail) ≡ true
among k [] tail e c = absurd (true_false (sym e))
among k (j ∷ js) tail e c =
    let t = both (is_none (strip j tail)) (clear js tail) c in
    by_test (bytes_eq j k)
    (λ b. subst (λ i. is_none (strip i tail) ≡ true) ((bytes_eq-Decides j k).0 b) t.0)
    (λ b. among k js tail (rw b at e) t.1)

clear_some : (all some : List (List ℕ)) (tail : List ℕ) → covers all some ≡ true → clear all tail ≡ true → clear some tail ≡ true
clear_some all [] tail e c = refl
clear_some all (k ∷ ks) tail e c =
    let t = both (list_any (λ j. bytes_eq j k) all) (covers all ks) e in
    rw (among k all tail t.0 c, clear_some all ks tail t.1 c) refl

pub fielded_stands : {K A B : Type 0} (text : K → List ℕ) (all : List K) (arms : K → List ℕ → Option (B × List ℕ)) (barred : List (List ℕ)) (k : K) (fs : Fields A) (make : A → B) (F : AreFields fs) (x : A)
    → first_spelled text all (text k) ≡ Some k → list_all is_letter (text k) ≡ true → ((bs : List ℕ) → arms k bs ≡ arm_fields fs make bs) → covers barred fs.barred ≡ true → Stands (read_sum text all arms) barred (make x) (fielded (text k) fs x)
fielded_stands text all arms barred k fs make F x here letters same within = record {
  again = λ tail v p c.
      let whole : arm_fields fs make (fs.body.spell x ++ tail) ≡ Some (make x, tail) = rw (F.again x tail v p (clear_some barred fs.barred tail within c)) refl in
      ap (read_sum text all arms) (append_assoc (text k) (fs.body.spell x) tail) ∙ word_read text all arms k (fs.body.spell x ++ tail) here letters (parted fs F x tail p) ∙ same (fs.body.spell x ++ tail) ∙ whole;
  clean = λ v. clean_both (text k) (fs.body.spell x) (letters_clean (text k) letters) (F.clean x v);
}

-- the whole sum: what each arm reads was spelled so, and each value is read
pub sum_laws : {K B : Type 0} (text : K → List ℕ) (all : List K) (arms : K → List ℕ → Option (B × List ℕ)) (form : B → Spelled) (barred : List (List ℕ))
    → ((k : K) → IsArm form (text k) (arms k)) → ((y : B) → Stands (read_sum text all arms) barred y (form y)) → IsFormatUpTo (sum_of text all arms form barred)
unfolding sum_of
sum_laws text all arms form barred found stands = record {
  found = λ bs p e. bind (first_spelled text all (first_word bs)) _ p e (λ k a b.
      let m = found k (behind_word bs) p b in
      (m.0, word_whole bs ∙ ap (λ w. w ++ behind_word bs) (first_found text all (first_word bs) k a) ∙ m.1));
  again = λ y tail v p c. (stands y).again tail v p c;
  clean = λ y v. (stands y).clean v;
}

-- a sum that nothing is barred from is a form
pub sum_form : {A : Type 0} (fs : Fields A) → fs.barred ≡ [] → IsFormatUpTo fs → IsFormat fs.body
sum_form fs e F = record { found = F.found; again = λ x tail v p. F.again x tail v p (subst (λ (ks : List (List ℕ)). clear ks tail ≡ true) (sym e) refl); clean = F.clean }
