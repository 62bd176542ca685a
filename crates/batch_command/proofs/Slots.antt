-- The number of slots that a word spells.
use Rattle.std.proofs.Common.{◌≡◌, ℕ, ◌≤◌, ◌^◌, true, List, Some, None, decimal, lit≤, sym, ap, subst, ◌∙◌, arith}
use Rattle.std.proofs.lemmas.Bool.Decides.{nat_tests}
use Rattle.std.proofs.lemmas.Option.{none-some, same_Some}
use Rattle.script_text.specs.Header.{is_machine}
use Rattle.text_codec.specs.Formats.{number_of}
use Rattle.text_codec.specs.BaseLaws.{number_found, number_again}

-- the word spells this number, which a machine may have
abbrev pub Slots : List ℕ → ℕ → Type 0
Slots w n = (1 ≤ n) × (n ≤ 65_535) × (w ≡ decimal n)

again : (w : List ℕ) (n : ℕ) → Slots w n → number_of (2 ^ 64) w ≡ Some n
again w n h = ap (number_of (2 ^ 64)) h.2 ∙ number_again (2 ^ 64) n (lit≤ tt) (omega (arith, h.1))

pub found : (w : List ℕ) (n : ℕ) → Some n ≡ number_of (2 ^ 64) w → w ≡ decimal n
found w n e = (number_found (2 ^ 64) w n (sym e)).1

pub none : (w : List ℕ) → None ≡ number_of (2 ^ 64) w → (n : ℕ) → Slots w n → ⊥
none w e n h = none-some n (e ∙ again w n h)

pub outside : (w : List ℕ) (m : ℕ) → Some m ≡ number_of (2 ^ 64) w → ((1 ≤ m) → (m ≤ 65_535) → ⊥) → (n : ℕ) → Slots w n → ⊥
outside w m e other n h =
    let same : n ≡ m = sym (same_Some m n (e ∙ again w n h)) in
    other (subst (λ (k : ℕ). 1 ≤ k) same h.0) (subst (λ (k : ℕ). k ≤ 65_535) same h.1)

pub some_slots : (n : ℕ) (name : List ℕ) → is_machine n name ≡ true → (1 ≤ n) × (n ≤ 65_535)
some_slots n name e = grind (arith, nat_tests)
