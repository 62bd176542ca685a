-- What was found out about the words.
use Rattle.std.proofs.Common.{◌≡◌, ℕ, ◌<◌, ◌≤◌, Bool, List, [], ◌∷◌, length, slice_index_or, codes, sym, ◌∙◌, arith}
use Rattle.std.specs.Prelude.{IsTrue}
use Rattle.std.specs.Str.{bytes_eq}
use Rattle.std.proofs.lemmas.Slice.Eq.{bytes_eq-Decides}

one_item : (ws : List (List ℕ)) (a : List ℕ) → a ≡ slice_index_or ws 0 a → 1 ≤ length ws → length ws < 2 → ws ≡ a ∷ []
one_item [] a e l m = absurd (omega (arith, l))
one_item (x ∷ []) a e l m = cc
one_item (x ∷ y ∷ r) a e l m = absurd (omega (arith, m))

pub asked : (words ws : List (List ℕ)) (a w : List ℕ) (t : Bool) → ws ≡ words → a ≡ slice_index_or ws 0 a → 1 ≤ length ws → length ws < 2 → w ≡ a
    → t ≡ bytes_eq w (codes "lint") → (IsTrue t → words ≡ codes "lint" ∷ []) × (words ≡ codes "lint" ∷ [] → IsTrue t)
asked words ws a w t same e l m is_word told =
    let items : ws ≡ a ∷ [] = one_item ws a e l m in (
      λ yes. let word : w ≡ codes "lint" = (bytes_eq-Decides w (codes "lint")).0 (sym told ∙ yes) in cc,
      λ all. let word : w ≡ codes "lint" = cc in told ∙ (bytes_eq-Decides w (codes "lint")).1 word,
    )
