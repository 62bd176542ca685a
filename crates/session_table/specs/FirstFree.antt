-- The first number that is not taken, and that there is one.
use Rattle.std.proofs.Common.{◌≡◌, ℕ, zero, suc, ◌+◌, ◌<◌, ◌≤◌, ◌^◌, ◌⊎◌, inl, inr, Bool, true, false, cond, ◌&&◌, ◌||◌, true≢false, List, [], ◌∷◌, ◌++◌, length, Option, Some, is_some, refl, sym, ap, ◌∙◌, arith}
use Rattle.std.proofs.lemmas.List.{append_cancel_left}
use Rattle.std.proofs.lemmas.Bool.Decides.{eqb_tells}
use Rattle.std.proofs.lemmas.Fmt.{decimal_injective}
use Rattle.std.specs.Cmp.Lexicographic.{bytes_decides}
use Rattle.std.specs.Fmt.{decimal}
use Rattle.std.specs.Prelude.{codes}
use Rattle.std.specs.List.{find, list_any}
use Rattle.std.specs.Option.{option_map}
use Rattle.std.specs.Str.{bytes_eq}
use Rattle.drmaa_types.specs.declared.sessions.SessionKind.{SessionKind}
use Rattle.session_table.specs.Sessions.{NamedSession, first_free, least_unused, session_name, in_use, is_kind, is_named, IsLeastUnused}

-- where the first is taken, it is the first of the others
pub first_free-next : (taken : ℕ → Bool) (from count rest : ℕ) → count ≡ rest + 1 → taken from ≡ true → first_free taken (from + 1) rest ≡ first_free taken from count
first_free-next taken from zero rest e used = absurd (omega arith)
first_free-next taken from (suc n) rest e used =
    let same : rest ≡ n = omega arith in
    ap (first_free taken (from + 1)) same ∙ sym (ap (λ b. cond b (first_free taken (from + 1) n) from) used)

-- those before it are taken, and it is not, or they all are
record IsFirstFree (taken : ℕ → Bool) (from count m : ℕ) : Type 0 where
  least : from ≤ m
  before : (k : ℕ) → from ≤ k → k < m → taken k ≡ true
  free : (taken m ≡ false) ⊎ (m ≡ from + count)

first_free-taken : (taken : ℕ → Bool) (from n : ℕ) → taken from ≡ true → IsFirstFree taken (from + 1) n (first_free taken (from + 1) n) → IsFirstFree taken from (suc n) (first_free taken (from + 1) n)
first_free-taken taken from n used rest = record {
  least = omega (arith, rest.least);
  before = λ k low high.
      elim (at_or_after from k low) [ inl e ↦ ap taken e ∙ used | inr above ↦ rest.before k above high ];
  free = elim rest.free [ inl e ↦ inl e | inr e ↦ inr (omega arith) ];
}
  where
    at_or_after : (from k : ℕ) → from ≤ k → (k ≡ from) ⊎ (from + 1 ≤ k)
    at_or_after from k low = elim (eqb_tells k from) [ inl e ↦ inl e.1 | inr e ↦ inr (omega (arith, e.1)) ]

first_free-is : (taken : ℕ → Bool) (from count : ℕ) → IsFirstFree taken from count (first_free taken from count)
first_free-is taken from zero = record { least = omega arith; before = λ k low high. absurd (omega arith); free = inr (omega arith) }
first_free-is taken from (suc n) =
    (elim (taken from) as (λ b. taken from ≡ b → IsFirstFree taken from (suc n) (cond b (first_free taken (from + 1) n) from)) [
      | true ↦ λ used. first_free-taken taken from n used (first_free-is taken (from + 1) n)
      | false ↦ λ free. record { least = omega arith; before = λ k low high. absurd (omega arith); free = inl free }
    ]) refl

-- ---- a list whose items take one number each takes no more numbers than it has items

module _ {X : Type 0} where
  -- without the first that passes
  without : (X → Bool) → List X → List X
  without p [] = []
  without p (x ∷ xs) = cond (p x) xs (x ∷ without p xs)

  length-without : (p : X → Bool) (xs : List X) → list_any p xs ≡ true → length xs ≡ length (without p xs) + 1
  unfolding without
  length-without p [] h = absurd (true≢false (sym h))
  length-without p (x ∷ xs) h =
      (elim (p x) as (λ b. (b || list_any p xs) ≡ true → suc (length xs) ≡ length (cond b xs (x ∷ without p xs)) + 1)
      [ true ↦ λ h. omega arith | false ↦ λ h. omega (arith, length-without p xs h) ]) h

  any-without : (p q : X → Bool) → ((x : X) → p x ≡ true → q x ≡ false) → (xs : List X) → list_any q xs ≡ true → list_any q (without p xs) ≡ true
  unfolding without
  any-without p q apart [] h = h
  any-without p q apart (x ∷ xs) h =
      (elim (p x) as (λ b. p x ≡ b → list_any q (cond b xs (x ∷ without p xs)) ≡ true) [
        | true ↦ λ e. sym (ap (λ c. c || list_any q xs) (apart x e)) ∙ h
        | false ↦ λ e. (elim (q x) as (λ c. (c || list_any q xs) ≡ true → (c || list_any q (without p xs)) ≡ true)
            [ true ↦ λ h. refl | false ↦ λ h. any-without p q apart xs h ]) h
      ]) refl

  all_taken : (takes : ℕ → X → Bool) (most : ℕ) → ((m n : ℕ) (x : X) → m ≤ most → n ≤ most → takes m x ≡ true → takes n x ≡ true → m ≡ n)
      → (count : ℕ) (xs : List X) → count ≤ most → ((k : ℕ) → 1 ≤ k → k ≤ count → list_any (takes k) xs ≡ true) → count ≤ length xs
  all_taken takes most one zero xs small taken = omega arith
  all_taken takes most one (suc n) xs small taken =
      let here : list_any (takes (suc n)) xs ≡ true = taken (suc n) (omega arith) (omega arith) in
      let rest = all_taken takes most one n (without (takes (suc n)) xs) (omega arith)
      (λ k low high. any-without (takes (suc n)) (takes k) (λ x e. differs n k x small high e) xs (taken k low (omega arith))) in
      omega (arith, rest, length-without (takes (suc n)) xs here)
    where
      differs : (n k : ℕ) (x : X) → suc n ≤ most → k ≤ n → takes (suc n) x ≡ true → takes k x ≡ false
      differs n k x low high e =
          (elim (takes k x) as (λ b. takes k x ≡ b → b ≡ false)
          [ true ↦ λ h. let same : suc n ≡ k = one (suc n) k x low (omega arith) e h in absurd (omega arith) | false ↦ λ h. refl ]) refl

-- ---- the names `session-N`

-- a name is in use where a session has it
pub in_use-list_any : (kind : SessionKind) (name : List ℕ) (named : List NamedSession) → in_use kind name named ≡ list_any (is_named kind name) named
in_use-list_any kind name [] = refl
in_use-list_any kind name (n ∷ ns) =
    elim (is_named kind name n) as (λ b. is_some (option_map (λ (n : NamedSession). n.home) (cond b (Some n) (find (is_named kind name) ns))) ≡ (b || list_any (is_named kind name) ns))
    [ true ↦ refl | false ↦ in_use-list_any kind name ns ]

-- a session has one name
and_right : (a b : Bool) → (a && b) ≡ true → b ≡ true
and_right true b h = h
and_right false b h = absurd (true≢false (sym h))

one_name : (kind : SessionKind) (m n : ℕ) (x : NamedSession) → m ≤ 1_001 → n ≤ 1_001 → is_named kind (session_name m) x ≡ true → is_named kind (session_name n) x ≡ true → m ≡ n
one_name kind m n x m_small n_small hm hn =
    let first : session_name m ≡ x.name = (bytes_decides (session_name m) x.name).0 (and_right (is_kind kind x.kind) (bytes_eq (session_name m) x.name) hm) in
    let second : session_name n ≡ x.name = (bytes_decides (session_name n) x.name).0 (and_right (is_kind kind x.kind) (bytes_eq (session_name n) x.name) hn) in
    decimal_injective m n (omega arith) (omega arith) (append_cancel_left (codes "session-") (decimal m) (decimal n) (first ∙ sym second))

-- the least unused number is what its name says
pub least_unused-is : (kind : SessionKind) (named : List NamedSession) → length named ≤ 1_000 → IsLeastUnused kind named (least_unused kind named)
least_unused-is kind named few =
    let n = least_unused kind named in
    let first = first_free-is (λ n. in_use kind (session_name n) named) 1 (length named) in
    record {
      from_one = first.least;
      unused = (elim (in_use kind (session_name n) named) as (λ b. in_use kind (session_name n) named ≡ b → b ≡ false) [
        | true ↦ λ used. elim first.free [ inl free ↦ sym used ∙ free | inr end ↦ absurd (all_in_use kind named few n end used first.before) ]
        | false ↦ λ free. refl
      ]) refl;
      least = first.before;
    }
  where
    all_in_use : (kind : SessionKind) (named : List NamedSession) → length named ≤ 1_000 → (n : ℕ) → n ≡ 1 + length named → in_use kind (session_name n) named ≡ true
        → ((k : ℕ) → 1 ≤ k → k < n → in_use kind (session_name k) named ≡ true) → ⊥
    all_in_use kind named few n end used before =
        let count : n ≤ length named = all_taken (λ n. is_named kind (session_name n)) 1_001 (one_name kind) n named (omega arith)
        (λ k low high. sym (in_use-list_any kind (session_name k) named)
        ∙ elim (eqb_tells k n) [ inl e ↦ ap (λ m. in_use kind (session_name m) named) e.1 ∙ used | inr e ↦ before k low (omega (arith, e.1)) ]) in
        omega arith
