-- What stands before a dot, by its length.
use Rattle.std.specs.List.{prefix_len}
use Rattle.std.proofs.lemmas.List.Sums.{prefix_len-le-length}
use Rattle.std.proofs.Common.{add-one, add_comm, ◌∙◌, ◌≡◌, ℕ, ◌≤◌, ◌==◌, List, [], ◌∷◌, length, take, drop, Option, Some, None, refl, sym, ap, subst, arith}
use Rattle.text_codec.specs.StepLaws.{by_test}
use Rattle.script_lines.specs.Refs.{at_dot, onto_part, no_dot}

-- the part before the first dot, by its length
pub none_behind : (bs : List ℕ) → length (drop (prefix_len no_dot bs) bs) ≡ 0 → ◌≡◌ {A = Option (List ℕ × List ℕ)} None (at_dot bs)
none_behind [] h = refl
none_behind (b ∷ bs) h = by_test (b == 46)
    (λ t. absurd (omega (arith, rw t at h)))
    (λ f. rw f (ap (onto_part b) (none_behind bs (simp (add_comm 1 (prefix_len no_dot bs), add-one) at (rw f at h)))))

some_with : {xs ys : List ℕ} → xs ≡ ys → ◌≡◌ {A = Option (List ℕ × List ℕ)} (Some ([], xs)) (Some ([], ys))
some_with e = cc

same_rest : (x y : ℕ) (xs ys : List ℕ) → x ∷ xs ≡ y ∷ ys → ys ≡ xs
same_rest x y xs ys e = cc

pub some_behind : (bs : List ℕ) (x : ℕ) (rest : List ℕ) → drop (prefix_len no_dot bs) bs ≡ x ∷ rest → ◌≡◌ {A = Option (List ℕ × List ℕ)} (Some (take (prefix_len no_dot bs) bs, rest)) (at_dot bs)
some_behind [] x rest h = cc
some_behind (b ∷ bs) x rest h = by_test (b == 46)
    (λ t. rw t (some_with (same_rest b x bs rest (rw t at h))))
    (λ f. let e = simp (add_comm 1 (prefix_len no_dot bs), add-one) at (rw f at h) in
    rw f (simp (add_comm 1 (prefix_len no_dot bs), add-one) (ap (onto_part b) (some_behind bs x rest e))))

pub len_within : (bs : List ℕ) → prefix_len no_dot bs ≤ length bs
len_within bs = prefix_len-le-length no_dot bs

pub split_some : (bs line behind rest : List ℕ) (n x : ℕ) → n ≡ prefix_len no_dot bs → line ≡ take n bs → behind ≡ drop n bs → behind ≡ x ∷ rest → ◌≡◌ {A = Option (List ℕ × List ℕ)} (Some (line, rest)) (at_dot bs)
split_some bs line behind rest n x e l b r =
    let P : ℕ → Type 0 = λ k. drop k bs ≡ x ∷ rest → ◌≡◌ {A = Option (List ℕ × List ℕ)} (Some (take k bs, rest)) (at_dot bs) in
    let at : P n = subst P (sym e) (some_behind bs x rest) in
    line_with l ∙ at (sym b ∙ r)
  where
    line_with : {xs ys : List ℕ} → xs ≡ ys → ◌≡◌ {A = Option (List ℕ × List ℕ)} (Some (xs, rest)) (Some (ys, rest))
    line_with h = cc

pub split_none : (bs behind : List ℕ) (n : ℕ) → n ≡ prefix_len no_dot bs → behind ≡ drop n bs → length behind ≡ 0 → ◌≡◌ {A = Option (List ℕ × List ℕ)} None (at_dot bs)
split_none bs behind n e b h = none_behind bs (ap (λ k. length (drop k bs)) (sym e) ∙ ap length (sym b) ∙ h)
