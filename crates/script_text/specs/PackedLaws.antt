-- Laws of byte strings in one buffer.
use Rattle.std.proofs.Common.{◌≡◌, ℕ, zero, suc, ◌+◌, ◌-◌, ◌<◌, ◌≤◌, List, [], ◌∷◌, ◌++◌, length, take, drop, get_or, refl, sym, ap, subst, ◌∙◌, append_assoc, append-nil, length-append, arith}
use Rattle.std.proofs.lemmas.List.{take_at, drop_at, drop-drop, get_or_default}
use Rattle.std.specs.List.{concat}
use Rattle.script_text.specs.Packed.{cut, ends_of, beginning, IsPacked}

-- ---- one string more

-- strings that are packed are cut as they were
cut_back : (from : ℕ) (xs : List (List ℕ)) → cut from (concat xs) (ends_of from xs) ≡ xs
cut_back from [] = refl
cut_back from (x ∷ xs) =
    let size : (from + length x) - from ≡ length x = omega arith in
    rw (size, take_at x (concat xs) (length x) refl, drop_at x (concat xs) (length x) refl) (ap (λ ys. x ∷ ys) (cut_back (from + length x) xs))

concat_more : (xs : List (List ℕ)) (x : List ℕ) → concat (xs ++ x ∷ []) ≡ concat xs ++ x
concat_more [] x = append-nil x
concat_more (y ∷ ys) x = ap (λ zs. y ++ zs) (concat_more ys x) ∙ sym (append_assoc y (concat ys) x)

ends_more : (from end : ℕ) (xs : List (List ℕ)) (x : List ℕ) → end ≡ from + length (concat xs) + length x → ends_of from (xs ++ x ∷ []) ≡ ends_of from xs ++ end ∷ []
ends_more from end [] x e =
    let same : from + length x ≡ end = omega arith in
    ap (λ n. n ∷ []) same
ends_more from end (y ∷ ys) x e =
    let joined : length (y ++ concat ys) ≡ length y + length (concat ys) = length-append y (concat ys) in
    let rest : end ≡ (from + length y) + length (concat ys) + length x = omega arith in
    ap (λ ns. (from + length y) ∷ ns) (ends_more (from + length y) end ys x rest)

bytes_longer : (bytes ends x : List ℕ) → IsPacked bytes ends → bytes ++ x ≡ concat (cut 0 bytes ends ++ x ∷ [])
bytes_longer bytes ends x p = sym (concat_more (cut 0 bytes ends) x ∙ ap (λ bs. bs ++ x) p.all)

ends_longer : (bytes ends x : List ℕ) (end : ℕ) → IsPacked bytes ends → end ≡ length bytes + length x → ends ++ end ∷ [] ≡ ends_of 0 (cut 0 bytes ends ++ x ∷ [])
ends_longer bytes ends x end p e =
    let same : length (concat (cut 0 bytes ends)) ≡ length bytes = ap length p.all in
    let there : end ≡ 0 + length (concat (cut 0 bytes ends)) + length x = omega arith in
    sym (ends_more 0 end (cut 0 bytes ends) x there ∙ ap (λ es. es ++ end ∷ []) p.ends_there)

pub cut_longer : (bytes ends x : List ℕ) (end : ℕ) → IsPacked bytes ends → end ≡ length bytes + length x → cut 0 (bytes ++ x) (ends ++ end ∷ []) ≡ cut 0 bytes ends ++ x ∷ []
cut_longer bytes ends x end p e =
    ap (λ bs. cut 0 bs (ends ++ end ∷ [])) (bytes_longer bytes ends x p)
    ∙ ap (λ es. cut 0 (concat (cut 0 bytes ends ++ x ∷ [])) es) (ends_longer bytes ends x end p e)
    ∙ cut_back 0 (cut 0 bytes ends ++ x ∷ [])

pub packed_longer : (bytes ends x : List ℕ) (end : ℕ) → IsPacked bytes ends → end ≡ length bytes + length x → IsPacked (bytes ++ x) (ends ++ end ∷ [])
packed_longer bytes ends x end p e = record {
  all = ap concat (cut_longer bytes ends x end p e) ∙ sym (bytes_longer bytes ends x p);
  ends_there = ap (ends_of 0) (cut_longer bytes ends x end p e) ∙ sym (ends_longer bytes ends x end p e);
}

-- ---- the string at a place

-- there are as many strings as ends
pub length_cut : (from : ℕ) (bytes ends : List ℕ) → length (cut from bytes ends) ≡ length ends
length_cut from bytes [] = refl
length_cut from bytes (e ∷ es) = ap suc (length_cut e (drop (e - from) bytes) es)

-- where it ends
end_at : (from : ℕ) (xs : List (List ℕ)) (k : ℕ) → k < length xs → get_or (ends_of from xs) k 0 ≡ from + length (concat (take (suc k) xs))
end_at from [] k h = absurd (omega arith)
end_at from (x ∷ xs) zero h = ap (λ n. from + n) (sym (ap length (append-nil x)))
end_at from (x ∷ xs) (suc k) h =
    let small : k < length xs = omega arith in
    let rest : get_or (ends_of (from + length x) xs) k 0 ≡ (from + length x) + length (concat (take (suc k) xs)) = end_at (from + length x) xs k small in
    let joined : length (x ++ concat (take (suc k) xs)) ≡ length x + length (concat (take (suc k) xs)) = length-append x (concat (take (suc k) xs)) in
    omega arith

begins_at : (xs : List (List ℕ)) (k : ℕ) → k < length xs → beginning (ends_of 0 xs) k ≡ length (concat (take k xs))
begins_at xs zero h = refl
begins_at xs (suc k) h =
    let small : k < length xs = omega arith in
    let there : get_or (ends_of 0 xs) k 0 ≡ 0 + length (concat (take (suc k) xs)) = end_at 0 xs k small in
    omega arith

-- what stands at a place: the bytes from its beginning to its end
pub record StandsAt (bytes : List ℕ) (xs : List (List ℕ)) (k from to : ℕ) : Type 0 where
  pub in_order : from ≤ to
  pub inside : to ≤ length bytes
  pub there : drop k xs ≡ take (to - from) (drop from bytes) ∷ drop (suc k) xs

later : (x bytes : List ℕ) (xs : List (List ℕ)) (k from to m n : ℕ) → StandsAt bytes xs k from to → m ≡ length x + from → n ≡ length x + to → StandsAt (x ++ bytes) (x ∷ xs) (suc k) m n
later x bytes xs k from to m n s e f =
    let order : from ≤ to = s.in_order in
    let inside : to ≤ length bytes = s.inside in
    let joined : length (x ++ bytes) ≡ length x + length bytes = length-append x bytes in
    let size : to - from ≡ n - m = omega arith in
    let rest : drop from bytes ≡ drop m (x ++ bytes) =
    ap (drop from) (sym (drop_at x bytes (length x) refl)) ∙ drop-drop from (length x) (x ++ bytes) ∙ ap (λ i. drop i (x ++ bytes)) (sym e) in
    record {
      in_order = omega arith;
      inside = omega arith;
      there = s.there ∙ ap (λ i. take i (drop from bytes) ∷ drop (suc k) xs) size ∙ ap (λ bs. take (n - m) bs ∷ drop (suc k) xs) rest;
    }

stands : (xs : List (List ℕ)) (k : ℕ) → k < length xs → StandsAt (concat xs) xs k (length (concat (take k xs))) (length (concat (take (suc k) xs)))
stands [] k h = absurd (omega arith)
stands (x ∷ xs) zero h =
    let size : length (x ++ []) ≡ length x = ap length (append-nil x) in
    let joined : length (x ++ concat xs) ≡ length x + length (concat xs) = length-append x (concat xs) in
    let long : length (x ++ []) - 0 ≡ length x = omega arith in
    record {
      in_order = omega arith;
      inside = omega arith;
      there = ap (λ y. y ∷ xs) (sym (ap (λ n. take n (x ++ concat xs)) long ∙ take_at x (concat xs) (length x) refl));
    }
stands (x ∷ xs) (suc k) h =
    let small : k < length xs = omega arith in
    later x (concat xs) xs k (length (concat (take k xs))) (length (concat (take (suc k) xs))) (length (concat (take (suc k) (x ∷ xs)))) (length (concat (take (suc (suc k)) (x ∷ xs))))
    (stands xs k small) (length-append x (concat (take k xs))) (length-append x (concat (take (suc k) xs)))

-- as many as there are ends
pub length_strings : (bytes ends : List ℕ) (xs : List (List ℕ)) → cut 0 bytes ends ≡ xs → length xs ≡ length ends
length_strings bytes ends xs v = ap length (sym v) ∙ length_cut 0 bytes ends

found_here : (bytes ends : List ℕ) (k from to : ℕ) → IsPacked bytes ends → k < length ends → from ≡ beginning ends k → to ≡ get_or ends k 0 → StandsAt bytes (cut 0 bytes ends) k from to
found_here bytes ends k from to p h b e =
    let xs = cut 0 bytes ends in
    let same : length (cut 0 bytes ends) ≡ length ends = length_cut 0 bytes ends in
    let small : k < length (cut 0 bytes ends) = omega arith in
    let first : from ≡ length (concat (take k xs)) = b ∙ ap (λ es. beginning es k) (sym p.ends_there) ∙ begins_at xs k small in
    let there : get_or ends k 0 ≡ 0 + length (concat (take (suc k) xs)) = ap (λ es. get_or es k 0) (sym p.ends_there) ∙ end_at 0 xs k small in
    let last : to ≡ length (concat (take (suc k) xs)) = omega arith in
    subst (λ n. StandsAt bytes xs k from n) (sym last)
    (subst (λ n. StandsAt bytes xs k n (length (concat (take (suc k) xs)))) (sym first)
    (subst (λ bs. StandsAt bs xs k (length (concat (take k xs))) (length (concat (take (suc k) xs)))) p.all (stands xs k small)))

pub found_at : (bytes ends : List ℕ) (xs : List (List ℕ)) (k from to : ℕ) → cut 0 bytes ends ≡ xs → IsPacked bytes ends → k < length xs → from ≡ beginning ends k → to ≡ get_or ends k to → StandsAt bytes xs k from to
found_at bytes ends xs k from to v p h b e =
    let same : length xs ≡ length ends = length_strings bytes ends xs v in
    let small : k < length ends = omega arith in
    subst (λ ys. StandsAt bytes ys k from to) v (found_here bytes ends k from to p small b (e ∙ get_or_default ends k to 0 small))
