-- Small steps of readers.
use Rattle.std.proofs.Common.{◌≡◌, ℕ, zero, suc, ◌==◌, ◌&&◌, not, Bool, true, false, List, [], ◌∷◌, ◌++◌, length, take, drop, Option, Some, None, refl, sym, ap, ◌∙◌, arith}
use Rattle.std.specs.List.{list_all, prefix_len}
use Rattle.std.specs.Str.{bytes_eq}
use Rattle.std.proofs.lemmas.Slice.Eq.{bytes_eq-Decides}
use Rattle.std.proofs.lemmas.Bool.Decides.{nat_tests}
use Rattle.std.proofs.lemmas.Option.{none-some, same_Some}
use Rattle.text_codec.specs.Lexical.{is_letter, parts}
use Rattle.text_codec.specs.Formats.{◌>>=◌, choose, strip, apart, first_word, behind_word, first_spelled}

pub both : (a b : Bool) → (a && b) ≡ true → (a ≡ true) × (b ≡ true)
both true b e = (refl, e)
both false b e = cc

pub by_test : {A : Type 0} (b : Bool) → (b ≡ true → A) → (b ≡ false → A) → A
by_test true f g = f refl
by_test false f g = g refl

pub true_false : true ≡ false → ⊥
true_false e = cc

-- a step that was taken
pub bind : {A B P : Type 0} (o : Option A) (f : A → Option B) (y : B) → (o >>= f) ≡ Some y → ((x : A) → o ≡ Some x → f x ≡ Some y → P) → P
bind None f y e k = absurd (none-some _ e)
bind (Some x) f y e k = k x refl e

-- which way a choice went
pub chosen : {A B P : Type 0} (o : Option A) (f : A → B) (d y : B) → choose o f d ≡ y → ((x : A) → o ≡ Some x → f x ≡ y → P) → (o ≡ None → d ≡ y → P) → P
chosen None f d y e k n = n refl e
chosen (Some x) f d y e k n = k x refl e

pub strip_found : (key bs rest : List ℕ) → strip key bs ≡ Some rest → bs ≡ key ++ rest
strip_found [] bs rest e = same_Some bs rest e
strip_found (k ∷ ks) [] rest e = absurd (none-some _ e)
strip_found (k ∷ ks) (b ∷ bs) rest e = by_test (b == k)
    (λ t. let same : b ≡ k = grind (arith, nat_tests) in ap (λ r. b ∷ r) (strip_found ks bs rest (rw t at e)) ∙ ap (λ c. c ∷ (ks ++ rest)) same)
    (λ f. absurd (none-some _ (rw f at e)))

pub strip_again : (key rest : List ℕ) → strip key (key ++ rest) ≡ Some rest
strip_again [] rest = refl
strip_again (k ∷ ks) rest = let same : k == k ≡ true = grind (arith, nat_tests) in rw same (strip_again ks rest)

pub strip_apart : (key other rest : List ℕ) → apart key other ≡ true → strip key (other ++ rest) ≡ None
strip_apart [] other rest e = absurd (true_false (sym e))
strip_apart (k ∷ ks) [] rest e = absurd (true_false (sym e))
strip_apart (k ∷ ks) (o ∷ os) rest e = by_test (o == k)
    (λ t. rw t (strip_apart ks os rest (rw t at e)))
    (λ f. rw f refl)

word_len : (w rest : List ℕ) → list_all is_letter w ≡ true → parts rest ≡ true → prefix_len is_letter (w ++ rest) ≡ length w
word_len [] [] e p = refl
word_len [] (b ∷ bs) e p = let no_letter : is_letter b ≡ false = not_true (is_letter b) p in rw no_letter refl
  where
    not_true : (b : Bool) → not b ≡ true → b ≡ false
    not_true true e = absurd (true_false (sym e))
    not_true false e = refl
word_len (x ∷ xs) rest e p = let parts_of = both (is_letter x) (list_all is_letter xs) e in rw parts_of.0 (omega (arith, word_len xs rest parts_of.1 p))

pub word_again : (w rest : List ℕ) → list_all is_letter w ≡ true → parts rest ≡ true → (first_word (w ++ rest) ≡ w) × (behind_word (w ++ rest) ≡ rest)
unfolding first_word behind_word
word_again w rest e p = let len = word_len w rest e p in (rw len (take_here w rest), rw len (drop_here w rest))
  where
    take_here : (w rest : List ℕ) → take (length w) (w ++ rest) ≡ w
    take_here [] rest = refl
    take_here (x ∷ xs) rest = ap (λ r. x ∷ r) (take_here xs rest)

    drop_here : (w rest : List ℕ) → drop (length w) (w ++ rest) ≡ rest
    drop_here [] rest = refl
    drop_here (x ∷ xs) rest = drop_here xs rest

pub word_whole : (bs : List ℕ) → bs ≡ first_word bs ++ behind_word bs
unfolding first_word behind_word
word_whole bs = whole (prefix_len is_letter bs) bs
  where
    whole : (n : ℕ) (bs : List ℕ) → bs ≡ take n bs ++ drop n bs
    whole zero bs = refl
    whole (suc n) [] = refl
    whole (suc n) (b ∷ bs) = ap (λ r. b ∷ r) (whole n bs)

-- words of a table
pub first_found : {A : Type 0} (spelling : A → List ℕ) (all : List A) (w : List ℕ) (x : A) → first_spelled spelling all w ≡ Some x → w ≡ spelling x
first_found spelling [] w x e = absurd (none-some _ e)
first_found spelling (y ∷ ys) w x e = by_test (bytes_eq (spelling y) w)
    (λ t. sym ((bytes_eq-Decides (spelling y) w).0 t) ∙ ap spelling (same_Some y x (rw t at e)))
    (λ f. first_found spelling ys w x (rw f at e))
