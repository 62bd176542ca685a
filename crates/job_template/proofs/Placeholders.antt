-- What `replace` makes of a text is the text with each placeholder replaced from left to right.
use Rattle.std.proofs.Common.{◌≡◌, ℕ, zero, suc, ◌+◌, ◌-◌, ◌<◌, ◌≤◌, true, false, cond, List, [], ◌∷◌, ◌++◌, length, take, drop, nat_eq, refl, sym, ap, subst, inl, inr, ◌∙◌, arith}
use Rattle.std.specs.List.{starts_with}
use Rattle.std.specs.Str.Pattern.{FindsText, LacksTextAt}
use Rattle.std.specs.Str.Replace.{ReplacesMatches}
use Rattle.std.proofs.lemmas.Slice.Eq.{starts_is}
use Rattle.std.proofs.lemmas.Bool.Decides.{Decides-eqb}
use Rattle.job_template.specs.Expand.{placeholder, replaced}
use denote.Ref.{Bor}

-- no placeholder begins where there is none at the first byte
begins_not : (b : ℕ) (bs : List ℕ) → LacksTextAt placeholder (b ∷ bs) 0 → starts_with nat_eq (b ∷ bs) placeholder ≡ false
begins_not b bs lacks =
    (elim (starts_with nat_eq (b ∷ bs) placeholder) as (λ r. r ≡ starts_with nat_eq (b ∷ bs) placeholder → r ≡ false) [
      | true ↦ λ e. absurd (lacks (drop (length placeholder) (b ∷ bs)) ((starts_is Decides-eqb (b ∷ bs) placeholder true e).0 refl))
      | false ↦ λ e. refl
    ]) refl

-- there a byte stays
stays : (digits : List ℕ) (b : ℕ) (bs : List ℕ) → LacksTextAt placeholder (b ∷ bs) 0 → replaced digits 0 (b ∷ bs) ≡ b ∷ replaced digits 0 bs
stays digits b bs lacks = ap (λ r. cond r (digits ++ replaced digits (length placeholder - 1) bs) (b ∷ replaced digits 0 bs)) (begins_not b bs lacks)

-- a placeholder at the front
at_front : (digits s tail : List ℕ) → s ≡ placeholder ++ tail → replaced digits 0 s ≡ digits ++ replaced digits 0 tail
at_front digits s tail e = ap (replaced digits 0) e

-- a text without a placeholder stays
without : (digits s : List ℕ) → ((i : ℕ) → i ≤ length s → LacksTextAt placeholder s i) → replaced digits 0 s ≡ s
without digits [] lacks = refl
without digits (b ∷ bs) lacks =
    stays digits b bs (lacks 0 (omega arith)) ∙ ap (λ xs. b ∷ xs) (without digits bs (λ i h. lacks (suc i) (omega arith)))

-- the first placeholder begins at a
until_first : (digits : List ℕ) (a : ℕ) (s tail : List ℕ) → ((i : ℕ) → i < a → LacksTextAt placeholder s i) → drop a s ≡ placeholder ++ tail
    → replaced digits 0 s ≡ take a s ++ (digits ++ replaced digits 0 tail)
until_first digits zero s tail lacks e = at_front digits s tail e
until_first digits (suc a) [] tail lacks e = absurd (cc)
until_first digits (suc a) (b ∷ bs) tail lacks e =
    stays digits b bs (lacks 0 (omega arith)) ∙ ap (λ xs. b ∷ xs) (until_first digits a bs tail (λ i h. lacks (suc i) (omega arith)) e)

-- what `replace` makes
pub replaced_matches : (digits : List ℕ) (n : ℕ) (p : Bor (List ℕ)) (s out : List ℕ) → p.now ≡ placeholder
    → ReplacesMatches (λ (q : Bor (List ℕ)). FindsText q.now) (λ q r. r.now ≡ q.now) digits n p s out → out ≡ replaced digits 0 s
replaced_matches digits zero p s out is m =
    m.1 ∙ sym (without digits s (subst (λ (w : List ℕ). (i : ℕ) → i ≤ length s → LacksTextAt w s i) is m.0))
replaced_matches digits (suc n) p s out is m =
    let lacks = subst (λ (w : List ℕ). (i : ℕ) → i < m.0 → LacksTextAt w s i) is m.4.0 in
    let split : drop m.0 s ≡ placeholder ++ drop m.1 s = m.4.1.split ∙ ap (λ w. w ++ drop m.1 s) is in
    let ends : m.1 ≡ m.0 + 14 = m.4.1.ends ∙ ap (λ w. m.0 + length w) is in
    (elim m.6 as (λ _. out ≡ replaced digits 0 s) [
      | inl h ↦ m.7 ∙ (ap (λ r. take m.0 s ++ (digits ++ r)) (replaced_matches digits n m.2 (drop m.1 s) m.3 (m.5 ∙ is) h.1) ∙ sym (until_first digits m.0 s (drop m.1 s) lacks split))
      | inr h ↦ absurd (omega (arith, ends, h.0))
    ])
