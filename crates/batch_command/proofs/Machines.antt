-- The machine that words ask for, by the machine that was found for some of them.
use Rattle.std.proofs.Common.{◌≡◌, inl, inr, ℕ, ◌<◌, ◌≤◌, Bool, true, List, [], ◌∷◌, length, slice_index_or, Option, Some, None, Result, Ok, Err, decimal, codes, sym, ◌∙◌, arith}
use Rattle.std.specs.Str.{bytes_eq}
use Rattle.std.proofs.lemmas.Slice.Eq.{bytes_eq-Decides}
use Rattle.std.specs.Prelude.{IfOk}
use Rattle.script_text.specs.Header.{is_machine}
use Rattle.command_scripts.specs.declared.batches.Machine.{Machine}
use Rattle.command_words.specs.Commands.{Finds}
use Rattle.batch_command.specs.Words.{AsksFor}

-- a machine with the slots that the word spells, and this name
abbrev pub With : List ℕ → List ℕ → Machine → Type 0
With slots name m = (slots ≡ decimal m.slots) × (m.name ≡ name) × (is_machine m.slots m.name ≡ true)

local_found : (words : List (List ℕ)) (w : List ℕ) (o : Option Machine) → words ≡ codes "script" ∷ w ∷ [] → Finds (With w (codes "local")) o → Finds (AsksFor words) o
local_found words w (Some m) e h = (inr (cc, h.1), h.2)
local_found words w None e h = λ m asks. (elim asks.0 as (λ _. ⊥) [
  | inl named ↦ absurd (cc)
  | inr plain ↦ h m (cc, plain.1, asks.1)
])

pub local_for : {E : Type 0} (words : List (List ℕ)) (w : List ℕ) (r : Result (Option Machine) E) → words ≡ codes "script" ∷ w ∷ []
    → IfOk r (Finds (With w (codes "local"))) → IfOk r (Finds (AsksFor words))
local_for words w (Ok o) e h = local_found words w o e h
local_for words w (Err x) e h = tt

named_found : (words : List (List ℕ)) (w name : List ℕ) (o : Option Machine) → words ≡ codes "script" ∷ w ∷ name ∷ [] → Finds (With w name) o → Finds (AsksFor words) o
named_found words w name (Some m) e h = (inl (cc), h.2)
named_found words w name None e h = λ m asks. (elim asks.0 as (λ _. ⊥) [
  | inl named ↦ h m (cc, cc, asks.1)
  | inr plain ↦ absurd (cc)
])

pub named_for : {E : Type 0} (words : List (List ℕ)) (w name : List ℕ) (r : Result (Option Machine) E) → words ≡ codes "script" ∷ w ∷ name ∷ []
    → IfOk r (Finds (With w name)) → IfOk r (Finds (AsksFor words))
named_for words w name (Ok o) e h = named_found words w name o e h
named_for words w name (Err x) e h = tt

-- ---- the words that were looked at

two_items : (ws : List (List ℕ)) (a b : List ℕ) → a ≡ slice_index_or ws 0 a → b ≡ slice_index_or ws 1 b → 2 ≤ length ws → length ws < 3 → ws ≡ a ∷ b ∷ []
two_items [] a b e f l m = absurd (omega (arith, l))
two_items (x ∷ []) a b e f l m = absurd (omega (arith, l))
two_items (x ∷ y ∷ []) a b e f l m = cc
two_items (x ∷ y ∷ z ∷ r) a b e f l m = absurd (omega (arith, m))

three_items : (ws : List (List ℕ)) (a b d : List ℕ) → a ≡ slice_index_or ws 0 a → b ≡ slice_index_or ws 1 b → d ≡ slice_index_or ws 2 d
    → 3 ≤ length ws → length ws < 4 → ws ≡ a ∷ b ∷ d ∷ []
three_items [] a b d e f g l m = absurd (omega (arith, l))
three_items (x ∷ []) a b d e f g l m = absurd (omega (arith, l))
three_items (x ∷ y ∷ []) a b d e f g l m = absurd (omega (arith, l))
three_items (x ∷ y ∷ z ∷ []) a b d e f g l m = cc
three_items (x ∷ y ∷ z ∷ v ∷ r) a b d e f g l m = absurd (omega (arith, m))

is_script : (w : List ℕ) (t : Bool) → t ≡ bytes_eq w (codes "script") → t ≡ true → w ≡ codes "script"
is_script w t e is = (bytes_eq-Decides w (codes "script")).0 (sym e ∙ is)

pub script_and_slots : (words ws : List (List ℕ)) (a b w v : List ℕ) (t : Bool) → ws ≡ words → a ≡ slice_index_or ws 0 a → b ≡ slice_index_or ws 1 b
    → 2 ≤ length ws → length ws < 3 → w ≡ a → t ≡ bytes_eq w (codes "script") → t ≡ true → v ≡ b → words ≡ codes "script" ∷ v ∷ []
script_and_slots words ws a b w v t same e f l m is_word told is is_slots =
    let items : ws ≡ a ∷ b ∷ [] = two_items ws a b e f l m in
    let word : w ≡ codes "script" = is_script w t told is in cc

pub script_slots_and_name : (words ws : List (List ℕ)) (a b d w v u : List ℕ) (t : Bool) → ws ≡ words → a ≡ slice_index_or ws 0 a → b ≡ slice_index_or ws 1 b
    → d ≡ slice_index_or ws 2 d → 3 ≤ length ws → length ws < 4 → w ≡ a → t ≡ bytes_eq w (codes "script") → t ≡ true → v ≡ b → u ≡ d
    → words ≡ codes "script" ∷ v ∷ u ∷ []
script_slots_and_name words ws a b d w v u t same e f g l m is_word told is is_slots is_name =
    let items : ws ≡ a ∷ b ∷ d ∷ [] = three_items ws a b d e f g l m in
    let word : w ≡ codes "script" = is_script w t told is in cc
