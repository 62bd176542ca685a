-- The first line and the whole lines.
use Rattle.std.proofs.Common.{◌≡◌, ℕ, ◌≤◌, ◌==◌, add-one, add_comm, false, List, [], ◌∷◌, ◌++◌, length, take, drop, Option, Some, None, refl, sym, ap, subst, ◌∙◌, arith}
use Rattle.std.specs.List.{prefix_len}
use Rattle.std.proofs.lemmas.Bool.Decides.{nat_tests}
use Rattle.std.proofs.lemmas.Option.{none-some, some_pair_parts}
use Rattle.std.proofs.lemmas.List.Sums.{prefix_len-le-length}
use Rattle.text_lines.specs.Lines.{whole_lines, onto_first}
use Rattle.text_codec.specs.Lexical.{no_feed}
use Rattle.text_lines.specs.Splitting.{first_line, onto_line}
use Rattle.text_codec.specs.StepLaws.{by_test}

pub record IsFirstLine (bs line rest : List ℕ) : Type 0 where
  pub lines : whole_lines bs ≡ line ∷ whole_lines rest
  pub bytes : bs ≡ line ++ 10 ∷ rest

some_parts : (a x b y : List ℕ) → ◌≡◌ {A = Option (List ℕ × List ℕ)} (Some (a, b)) (Some (x, y)) → (a ≡ x) × (b ≡ y)
some_parts a x b y e = some_pair_parts a x b y e

-- a line that is longer by its first byte
longer : (b : ℕ) (bs line rest : List ℕ) (o : Option (List ℕ × List ℕ)) → ((l r : List ℕ) → ◌≡◌ {A = Option (List ℕ × List ℕ)} o (Some (l, r)) → IsFirstLine bs l r)
    → ◌≡◌ {A = Option (List ℕ × List ℕ)} (onto_line b o) (Some (line, rest)) → b == 10 ≡ false → IsFirstLine (b ∷ bs) line rest
longer b bs line rest None more k f = absurd (none-some _ k)
longer b bs line rest (Some p) more k f =
    let same = some_parts (b ∷ p.0) line p.1 rest k in
    let m = more p.0 p.1 refl in
    record {
      lines = rw f (ap (onto_first b) m.lines ∙ ap (λ l. l ∷ whole_lines p.1) same.0 ∙ ap (λ r. line ∷ whole_lines r) same.1);
      bytes = ap (λ r. b ∷ r) m.bytes ∙ ap (λ l. l ++ 10 ∷ p.1) same.0 ∙ ap (λ r. line ++ 10 ∷ r) same.1;
    }

pub line_found : (bs line rest : List ℕ) → ◌≡◌ {A = Option (List ℕ × List ℕ)} (first_line bs) (Some (line, rest)) → IsFirstLine bs line rest
line_found [] line rest e = absurd (none-some _ e)
line_found (b ∷ bs) line rest e = by_test (b == 10)
    (λ t. let same = some_parts [] line bs rest (rw t at e) in
    let feed : b ≡ 10 = grind (arith, nat_tests) in
    record { lines = rw t (ap (λ l. l ∷ whole_lines bs) same.0 ∙ ap (λ r. line ∷ whole_lines r) same.1); bytes = rw feed (ap (λ r. 10 ∷ r) same.1 ∙ ap (λ l. l ++ 10 ∷ rest) same.0) })
    (λ f. longer b bs line rest (first_line bs) (line_found bs) (rw f at e) f)

shorter : (b : ℕ) (bs : List ℕ) (o : Option (List ℕ × List ℕ)) → (◌≡◌ {A = Option (List ℕ × List ℕ)} o None → whole_lines bs ≡ [])
    → ◌≡◌ {A = Option (List ℕ × List ℕ)} (onto_line b o) None → b == 10 ≡ false → whole_lines (b ∷ bs) ≡ []
shorter b bs None more k f = rw f (ap (onto_first b) (more refl))
shorter b bs (Some p) more k f = absurd (none-some _ (sym k))

pub no_line : (bs : List ℕ) → ◌≡◌ {A = Option (List ℕ × List ℕ)} (first_line bs) None → whole_lines bs ≡ []
no_line [] e = refl
no_line (b ∷ bs) e = by_test (b == 10)
    (λ t. absurd (none-some _ (sym (rw t at e))))
    (λ f. shorter b bs (first_line bs) (no_line bs) (rw f at e) f)

-- the first line by its length
pub none_behind : (bs : List ℕ) → length (drop (prefix_len no_feed bs) bs) ≡ 0 → ◌≡◌ {A = Option (List ℕ × List ℕ)} None (first_line bs)
none_behind [] h = refl
none_behind (b ∷ bs) h = by_test (b == 10)
    (λ t. absurd (omega (arith, rw t at h)))
    (λ f. rw f (ap (onto_line b) (none_behind bs (simp (add_comm 1 (prefix_len no_feed bs), add-one) at (rw f at h)))))

some_with : {xs ys : List ℕ} → xs ≡ ys → ◌≡◌ {A = Option (List ℕ × List ℕ)} (Some ([], xs)) (Some ([], ys))
some_with e = cc

same_rest : (x y : ℕ) (xs ys : List ℕ) → x ∷ xs ≡ y ∷ ys → ys ≡ xs
same_rest x y xs ys e = cc

pub some_behind : (bs : List ℕ) (x : ℕ) (rest : List ℕ) → drop (prefix_len no_feed bs) bs ≡ x ∷ rest → ◌≡◌ {A = Option (List ℕ × List ℕ)} (Some (take (prefix_len no_feed bs) bs, rest)) (first_line bs)
some_behind [] x rest h = cc
some_behind (b ∷ bs) x rest h = by_test (b == 10)
    (λ t. rw t (some_with (same_rest b x bs rest (rw t at h))))
    (λ f. let e = simp (add_comm 1 (prefix_len no_feed bs), add-one) at (rw f at h) in
    rw f (simp (add_comm 1 (prefix_len no_feed bs), add-one) (ap (onto_line b) (some_behind bs x rest e))))

pub len_within : (bs : List ℕ) → prefix_len no_feed bs ≤ length bs
len_within bs = prefix_len-le-length no_feed bs

pub split_some : (bs line behind rest : List ℕ) (n x : ℕ) → n ≡ prefix_len no_feed bs → line ≡ take n bs → behind ≡ drop n bs → behind ≡ x ∷ rest → ◌≡◌ {A = Option (List ℕ × List ℕ)} (Some (line, rest)) (first_line bs)
split_some bs line behind rest n x e l b r =
    let P : ℕ → Type 0 = λ k. drop k bs ≡ x ∷ rest → ◌≡◌ {A = Option (List ℕ × List ℕ)} (Some (take k bs, rest)) (first_line bs) in
    let at : P n = subst P (sym e) (some_behind bs x rest) in
    line_with l ∙ at (sym b ∙ r)
  where
    line_with : {xs ys : List ℕ} → xs ≡ ys → ◌≡◌ {A = Option (List ℕ × List ℕ)} (Some (xs, rest)) (Some (ys, rest))
    line_with h = cc

pub split_none : (bs behind : List ℕ) (n : ℕ) → n ≡ prefix_len no_feed bs → behind ≡ drop n bs → length behind ≡ 0 → ◌≡◌ {A = Option (List ℕ × List ℕ)} None (first_line bs)
split_none bs behind n e b h = none_behind bs (ap (λ k. length (drop k bs)) (sym e) ∙ ap length (sym b) ∙ h)
