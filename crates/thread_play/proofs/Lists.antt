-- Lists, an item more at their end or another one in their middle.
use Rattle.std.proofs.Common.{◌≡◌, ℕ, zero, suc, ◌<◌, ◌⊎◌, inl, inr, ⊎_elim, List, [], ◌∷◌, ◌++◌, set, replicate, length, slice_index_or, refl, ap, ◌∙◌, arith}
use Rattle.std.proofs.Math.Seq.{get_or-append_seam, set-append_seam}

module _ {X : Type 0} where
  pub at-more : (xs : List X) (x d : X) (k : ℕ) → k < length (xs ++ x ∷ []) → ((k < length xs) × (slice_index_or (xs ++ x ∷ []) k d ≡ slice_index_or xs k d)) ⊎ ((k ≡ length xs) × (slice_index_or (xs ++ x ∷ []) k d ≡ x))
  at-more [] x d zero h = inr (refl, refl)
  at-more [] x d (suc k) h = absurd (omega arith)
  at-more (y ∷ ys) x d zero h = inl (omega arith, refl)
  at-more (y ∷ ys) x d (suc k) h =
      ⊎_elim (λ (a : (k < length ys) × (slice_index_or (ys ++ x ∷ []) k d ≡ slice_index_or ys k d)). inl (let b = a.0 in omega arith, a.1))
      (λ (a : (k ≡ length ys) × (slice_index_or (ys ++ x ∷ []) k d ≡ x)). inr (let b = a.0 in omega arith, a.1)) (at-more ys x d k (omega arith))

  pub replicate-more : (n : ℕ) (x : X) → replicate n x ++ x ∷ [] ≡ replicate (suc n) x
  replicate-more zero x = refl
  replicate-more (suc n) x = ap (λ (l : List X). x ∷ l) (replicate-more n x)

  pub set-between : (front : List X) (x y : X) (back : List X) (k : ℕ) → k ≡ length front → set (front ++ x ∷ back) k y ≡ front ++ y ∷ back
  set-between front x y back k is = ap (λ (n : ℕ). set (front ++ x ∷ back) n y) is ∙ set-append_seam front x back y

  pub at-between : (front : List X) (x d : X) (back : List X) (k : ℕ) → k ≡ length front → slice_index_or (front ++ x ∷ back) k d ≡ x
  at-between front x d back k is = ap (λ (n : ℕ). slice_index_or (front ++ x ∷ back) n d) is ∙ get_or-append_seam front x back d

  -- an item of a list that has some
  pub some-item : (xs : List X) (i : ℕ) → i < length xs → X
  some-item [] i h = absurd (omega arith)
  some-item (x ∷ xs) i h = x
