-- A byte that is read was spelled, and a byte that is spelled is read.
use Rattle.std.specs.List.{flat_map}
use Rattle.std.proofs.Common.{append_assoc, length, lit<, Bor, option_map, IfSome, IsSomeAnd, ◌≡◌, ℕ, ◌+◌, ◌*◌, ◌/◌, ◌%◌, ◌<◌, ◌==◌, ◌||◌, Bool, true, false, cond, List, [], ◌∷◌, ◌++◌, Option, Some, None, refl, sym, ap, subst, ◌∙◌, inl, inr, ◌⊎◌, arith}
use Rattle.std.proofs.lemmas.Bool.Decides.{nat_tests}
use Rattle.std.proofs.lemmas.Option.{option_and_then_some, cond_some, none-some, some_pair_parts}
use Rattle.text_codec.specs.Lexical.{hex_digit, is_control, escaped}
use Rattle.text_codec.specs.Units.{hex_value, control, control_at, escape_at, unit_at}

-- which way a test went
pub chosen : {A : Type 0} (b : Bool) (x y z : A) → cond b x y ≡ z → ((b ≡ true) × (x ≡ z)) ⊎ ((b ≡ false) × (y ≡ z))
chosen true x y z e = inl (refl, e)
chosen false x y z e = inr (refl, e)

hex_value_found : (b d : ℕ) → hex_value b ≡ Some d → (d < 16) × (b ≡ hex_digit d)
hex_value_found b d e = grind (arith, nat_tests)

hex_value_again : (d : ℕ) → d < 16 → hex_value (hex_digit d) ≡ Some d
hex_value_again d h = grind (arith, nat_tests)

halves : (h l : ℕ) → h < 16 → l < 16 → ((h * 16 + l) / 16 ≡ h) × ((h * 16 + l) % 16 ≡ l)
halves h l p q = (omega arith, omega arith)

-- the control character x is spelled by these two digits
record IsControlOf (high low x : ℕ) : Type 0 where
  test : is_control x ≡ true
  first : high ≡ hex_digit (x / 16)
  second : low ≡ hex_digit (x % 16)

control_found : (high low x : ℕ) → control high low ≡ Some x → IsControlOf high low x
control_found high low x e =
    option_and_then_some _ (hex_value high) x e (λ h p q.
    option_and_then_some _ (hex_value low) x q (λ l p' q'.
    let t = cond_some (is_control (h * 16 + l)) (h * 16 + l) x q' in
    let H = hex_value_found high h p in
    let L = hex_value_found low l p' in
    let both = halves h l H.0 L.0 in
    let P : ℕ → Type 0 = λ y. IsControlOf high low y in
    subst P t.1 (record { test = t.0; first = H.1 ∙ ap hex_digit (sym both.0); second = L.1 ∙ ap hex_digit (sym both.1) })))

control_again : (x : ℕ) → is_control x ≡ true → control (hex_digit (x / 16)) (hex_digit (x % 16)) ≡ Some x
control_again x t =
    let small : x < 128 = grind (arith, nat_tests) in
    let high : hex_value (hex_digit (x / 16)) ≡ Some (x / 16) = hex_value_again (x / 16) (omega arith) in
    let low : hex_value (hex_digit (x % 16)) ≡ Some (x % 16) = hex_value_again (x % 16) (omega arith) in
    let whole : x / 16 * 16 + x % 16 ≡ x = omega arith in
    rw (high, low, whole, t) refl

control_at_found : (bs : List ℕ) (x : ℕ) (rest : List ℕ) → control_at bs ≡ Some (x, rest) → (is_control x ≡ true) × (bs ≡ hex_digit (x / 16) ∷ hex_digit (x % 16) ∷ rest)
control_at_found [] x rest e = absurd (none-some _ e)
control_at_found (high ∷ []) x rest e = absurd (none-some _ e)
control_at_found (high ∷ low ∷ bs) x rest e =
    option_and_then_some _ (control high low) (x, rest) e (λ y p q.
    let same = some_pair_parts y x bs rest q in
    let C = control_found high low x (p ∙ ap Some same.0) in
    (C.test, ap (λ h. h ∷ low ∷ bs) C.first ∙ ap (λ l. hex_digit (x / 16) ∷ l ∷ bs) C.second ∙ ap (λ r. hex_digit (x / 16) ∷ hex_digit (x % 16) ∷ r) same.1))

-- the three ways in which a byte is spelled
pub escaped-special : (x : ℕ) → (x == 34) || (x == 92) ≡ true → escaped x ≡ 92 ∷ x ∷ []
unfolding escaped
escaped-special x e = grind (arith, nat_tests)

pub escaped-control : (x : ℕ) → is_control x ≡ true → escaped x ≡ 92 ∷ 120 ∷ hex_digit (x / 16) ∷ hex_digit (x % 16) ∷ []
unfolding escaped
escaped-control x e =
    let quote : x == 34 ≡ false = grind (arith, nat_tests) in
    let slash : x == 92 ≡ false = grind (arith, nat_tests) in
    rw (quote, slash, e) refl

pub escaped-plain : (x : ℕ) → x == 92 ≡ false → (x == 34) || is_control x ≡ false → escaped x ≡ x ∷ []
unfolding escaped
escaped-plain x e f =
    let quote : x == 34 ≡ false = grind (arith, nat_tests) in
    let other : is_control x ≡ false = grind (arith, nat_tests) in
    rw (quote, e, other) refl

escape_at_found : (bs : List ℕ) (x : ℕ) (rest : List ℕ) → escape_at bs ≡ Some (x, rest) → 92 ∷ bs ≡ escaped x ++ rest
escape_at_found [] x rest e = absurd (none-some _ e)
escape_at_found (k ∷ bs) x rest e =
    elim (chosen ((k == 34) || (k == 92)) (Some (k, bs)) (cond (k == 120) (control_at bs) None) (Some (x, rest)) e) [
      | inl h ↦
          let same = some_pair_parts k x bs rest h.1 in
          let special : (x == 34) || (x == 92) ≡ true = subst (λ (y : ℕ). (y == 34) || (y == 92) ≡ true) same.0 h.0 in
          rw (escaped-special x special, same.0, same.1) refl
      | inr h ↦
          elim (chosen (k == 120) (control_at bs) None (Some (x, rest)) h.1) [
            | inl g ↦
                let C = control_at_found bs x rest g.1 in
                let is_x : k ≡ 120 = grind (arith, nat_tests) in
                rw (escaped-control x C.0, is_x, C.1) refl
            | inr g ↦ absurd (none-some _ g.1)
          ]
    ]

-- what is read was spelled so
pub unit_found : (bs : List ℕ) (x : ℕ) (rest : List ℕ) → unit_at bs ≡ Some (x, rest) → bs ≡ escaped x ++ rest
unit_found [] x rest e = absurd (none-some _ e)
unit_found (b ∷ bs) x rest e =
    elim (chosen (b == 92) (escape_at bs) (cond ((b == 34) || is_control b) None (Some (b, bs))) (Some (x, rest)) e) [
      | inl h ↦
          let slash : b ≡ 92 = grind (arith, nat_tests) in
          rw slash (escape_at_found bs x rest h.1)
      | inr h ↦
          elim (chosen ((b == 34) || is_control b) None (Some (b, bs)) (Some (x, rest)) h.1) [
            | inl g ↦ absurd (none-some _ g.1)
            | inr g ↦
                let same = some_pair_parts b x bs rest g.1 in
                let P : ℕ → Type 0 = λ y. b ∷ bs ≡ escaped y ++ rest in
                subst P same.0 (rw (escaped-plain b h.0 g.0, same.1) refl)
          ]
    ]

pub by_test : {A : Type 0} (b : Bool) → (b ≡ true → A) → (b ≡ false → A) → A
by_test true f g = f refl
by_test false f g = g refl

-- what is spelled so is read
pub unit_again : (x : ℕ) (rest : List ℕ) → unit_at (escaped x ++ rest) ≡ Some (x, rest)
unit_again x rest =
    by_test ((x == 34) || (x == 92)) (λ special. rw (escaped-special x special, special) refl) (λ other.
    by_test (is_control x) (λ control. rw (escaped-control x control, control_again x control) refl) (λ visible.
    let slash : x == 92 ≡ false = grind (arith, nat_tests) in
    let closed : (x == 34) || is_control x ≡ false = grind (arith, nat_tests) in
    rw (escaped-plain x slash closed, slash, closed) refl))

-- the same of what a reader returned
pub if_found : (bs : List ℕ) (r : Option (ℕ × Bor (List ℕ))) → option_map (λ p. (p.0, p.1.now)) r ≡ unit_at bs → IfSome r (λ u. bs ≡ escaped u.0 ++ u.1.now)
if_found bs None e = tt
if_found bs (Some u) e = unit_found bs u.0 u.1.now (sym e)

pub if_only : (bs : List ℕ) (r : Option (ℕ × Bor (List ℕ))) → option_map (λ p. (p.0, p.1.now)) r ≡ unit_at bs
    → (x : ℕ) (rest : List ℕ) → bs ≡ escaped x ++ rest → IsSomeAnd r (λ u. (u.0 ≡ x) × (u.1.now ≡ rest))
if_only bs None e x rest h = absurd (none-some _ (e ∙ ap unit_at h ∙ unit_again x rest))
if_only bs (Some u) e x rest h = some_pair_parts u.0 x u.1.now rest (e ∙ ap unit_at h ∙ unit_again x rest)

-- the spelling of a byte is not empty
pub escaped_some : (x : ℕ) → 0 < length (escaped x)
escaped_some x =
    by_test ((x == 34) || (x == 92)) (λ special. rw (escaped-special x special) (lit< tt)) (λ other.
    by_test (is_control x) (λ control. rw (escaped-control x control) (lit< tt)) (λ visible.
    let slash : x == 92 ≡ false = grind (arith, nat_tests) in
    let closed : (x == 34) || is_control x ≡ false = grind (arith, nat_tests) in
    rw (escaped-plain x slash closed) (lit< tt)))

-- no byte is spelled at the front
abbrev pub NoUnit : List ℕ → Type 0
NoUnit bs = (x : ℕ) (more : List ℕ) → bs ≡ escaped x ++ more → ⊥

-- a text that is spelled up to a closing quote, and one that is read as far as bytes are spelled, are one
pub one_text : (text other rest more : List ℕ) → flat_map escaped text ++ rest ≡ flat_map escaped other ++ 34 ∷ more → NoUnit rest → (text ≡ other) × (rest ≡ 34 ∷ more)
one_text [] [] rest more e none_here = (refl, e)
one_text [] (y ∷ ys) rest more e none_here = absurd (none_here y (flat_map escaped ys ++ 34 ∷ more) (e ∙ append_assoc (escaped y) (flat_map escaped ys) (34 ∷ more)))
one_text (x ∷ xs) [] rest more e none_here =
    absurd (none-some _ (ap unit_at (sym e ∙ append_assoc (escaped x) (flat_map escaped xs) rest) ∙ unit_again x (flat_map escaped xs ++ rest)))
one_text (x ∷ xs) (y ∷ ys) rest more e none_here =
    let whole : escaped x ++ (flat_map escaped xs ++ rest) ≡ escaped y ++ (flat_map escaped ys ++ 34 ∷ more) = sym (append_assoc (escaped x) (flat_map escaped xs) rest) ∙ e ∙ append_assoc (escaped y) (flat_map escaped ys) (34 ∷ more) in
    let same = some_pair_parts x y (flat_map escaped xs ++ rest) (flat_map escaped ys ++ 34 ∷ more) (sym (unit_again x _) ∙ ap unit_at whole ∙ unit_again y _) in
    let others = one_text xs ys rest more same.1 none_here in
    (ap (λ z. z ∷ xs) same.0 ∙ ap (λ zs. y ∷ zs) others.0, others.1)
