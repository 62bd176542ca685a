-- Words that are found among fewer, by how many bytes they have.
use Rattle.std.proofs.Common.{◌≡◌, ℕ, ◌≤◌, ◌&&◌, nat_le, Bool, true, false, List, [], ◌∷◌, length, filter, bytes_eq, refl, sym, ap, ◌∙◌, arith}
use Rattle.std.proofs.lemmas.Bool.Decides.{nat_tests}
use Rattle.std.proofs.lemmas.Slice.Eq.{bytes_eq-Decides}
use Rattle.text_codec.specs.Formats.{first_spelled}
use Rattle.text_codec.specs.StepLaws.{by_test, true_false}
use Rattle.script_lines.specs.declared.words.LineWord.{LineWord}
use Rattle.script_lines.specs.declared.words.TheConstants.{LINE_WORDS}
use Rattle.script_lines.specs.LineWords.{line_word, HasAllOfSize}
use Rattle.script_lines.specs.RefLaws.{and_true}

unlike : (keep : ℕ → Bool) (a b : List ℕ) → keep (length a) ≡ false → keep (length b) ≡ true → bytes_eq a b ≡ false
unlike keep a b f k = by_test (bytes_eq a b)
    (λ same. absurd (true_false (sym k ∙ sym (ap (λ (xs : List ℕ). keep (length xs)) ((bytes_eq-Decides a b).0 same)) ∙ f)))
    (λ other. other)

-- words of other sizes may be left out
found_among : {A : Type 0} (text : A → List ℕ) (keep : ℕ → Bool) (w : List ℕ) → keep (length w) ≡ true → (all : List A)
    → first_spelled text (filter (λ x. keep (length (text x))) all) w ≡ first_spelled text all w
found_among text keep w k [] = refl
found_among text keep w k (x ∷ xs) = by_test (keep (length (text x)))
    (λ t. rw t (by_test (bytes_eq (text x) w)
    (λ same. rw same refl)
    (λ other. rw other (found_among text keep w k xs))))
    (λ f. rw (f, unlike keep (text x) w f k) (found_among text keep w k xs))

pub by_size : (keep : ℕ → Bool) (size : ℕ) (among : List LineWord) → among ≡ filter (λ x. keep (length (line_word x))) LINE_WORDS → keep size ≡ true → HasAllOfSize size among
unfolding HasAllOfSize
by_size keep size among e k =
    λ w same. ap (λ (ks : List LineWord). first_spelled line_word ks w) e ∙ found_among line_word keep w (ap keep same ∙ k) LINE_WORDS

pub at_least : (low size : ℕ) → low ≤ size → nat_le low size ≡ true
at_least low size l = grind (arith, nat_tests)

-- words of these sizes, the least and the greatest
pub between : (low high size : ℕ) (among : List LineWord) → among ≡ filter (λ x. nat_le low (length (line_word x)) && nat_le (length (line_word x)) high) LINE_WORDS
    → low ≤ size → size ≤ high → HasAllOfSize size among
between low high size among e l h =
    by_size (λ n. nat_le low n && nat_le n high) size among e (and_true (nat_le low size) (nat_le size high) (at_least low size l) (at_least size high h))
