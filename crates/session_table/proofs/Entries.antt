-- A list of entries, each seen as a row.
use Rattle.std.proofs.Common.{◌≡◌, ℕ, Bool, true, false, not, cond, filter, List, [], ◌∷◌, map, nat_eq, Option, None, Some, is_some, refl, sym, ap, ◌∙◌}
use Rattle.std.proofs.lemmas.Map.{NonePasses}
use Rattle.std.proofs.lemmas.Map.Entries.{none_past_head}
use Rattle.std.proofs.lemmas.Map.Keys.{IsDistinct-tail}
use Rattle.std.specs.Cmp.{nat_eq_equiv}
use Rattle.std.specs.List.{find, IsDistinct}
use Rattle.std.specs.Map.{lookup, keys_of, remove_entry}
use Rattle.std.specs.Option.{option_map}

module _ {X R : Type 0} (row : ℕ × X → R) where
  -- the first row that passes, by the first entry whose key does
  pub find-rows : {Y : Type 0} (test : ℕ → Bool) (passes : R → Bool) (g : R → Y) (h : X → Y) → ((e : ℕ × X) → passes (row e) ≡ test e.0) → ((e : ℕ × X) → g (row e) ≡ h e.1) → (es : List (ℕ × X)) → option_map g (find passes (map row es)) ≡ option_map h (lookup test es)
  find-rows test passes g h same gives [] = refl
  find-rows test passes g h same gives (e ∷ es) =
      ap (λ b. option_map g (cond b (Some (row e)) (find passes (map row es)))) (same e)
      ∙ elim (test e.0) as (λ b. option_map g (cond b (Some (row e)) (find passes (map row es))) ≡ option_map h (cond b (Some e.1) (lookup test es)))
      [ true ↦ ap Some (gives e) | false ↦ find-rows test passes g h same gives es ]

  -- the rows that pass, by the entries that do
  pub filter-rows : (test : ℕ × X → Bool) (passes : R → Bool) → ((e : ℕ × X) → passes (row e) ≡ test e) → (es : List (ℕ × X)) → map row (filter test es) ≡ filter passes (map row es)
  filter-rows test passes same [] = refl
  filter-rows test passes same (e ∷ es) =
      (elim (test e) as (λ b. map row (cond b (e ∷ filter test es) (filter test es)) ≡ cond b (row e ∷ filter passes (map row es)) (filter passes (map row es)))
      [ true ↦ ap (λ rs. row e ∷ rs) (filter-rows test passes same es) | false ↦ filter-rows test passes same es ])
      ∙ sym (ap (λ b. cond b (row e ∷ filter passes (map row es)) (filter passes (map row es))) (same e))

module _ {X : Type 0} where
  -- the entries of the other keys
  abbrev pub others : ℕ → List (ℕ × X) → List (ℕ × X)
  others k es = filter (λ (e : ℕ × X). not (nat_eq k e.0)) es

  -- no entry leaves where no key is the one that goes
  pub others-none : (k : ℕ) (es : List (ℕ × X)) → NonePasses (nat_eq k) es → others k es ≡ es
  others-none k [] none = refl
  others-none k (e ∷ es) none =
      ap (λ b. cond (not b) (e ∷ others k es) (others k es)) none.0
      ∙ ap (λ rs. e ∷ rs) (others-none k es none.1)

  -- keys are distinct, so without the first entry of a key there is none
  pub remove_entry-distinct : (k : ℕ) (es : List (ℕ × X)) → IsDistinct nat_eq (keys_of es) → remove_entry (nat_eq k) es ≡ others k es
  remove_entry-distinct k [] distinct = refl
  remove_entry-distinct k (e ∷ es) distinct =
      (elim (nat_eq k e.0) as (λ b. nat_eq k e.0 ≡ b → cond b es (e ∷ remove_entry (nat_eq k) es) ≡ cond (not b) (e ∷ others k es) (others k es)) [
        | true ↦ λ p. sym (others-none k es (none_past_head nat_eq_equiv k e es distinct p))
        | false ↦ λ p. ap (λ rs. e ∷ rs) (remove_entry-distinct k es (IsDistinct-tail nat_eq e.0 (keys_of es) distinct))
      ]) refl

-- nothing is there where what it gives is not
pub option_map-none : {X Y : Type 0} (f : X → Y) (o : Option X) → option_map f o ≡ None → o ≡ None
option_map-none f None p = refl
option_map-none f (Some x) p = cc

pub is_some-option_map : {X Y : Type 0} (f : X → Y) (o : Option X) → is_some (option_map f o) ≡ is_some o
is_some-option_map f None = refl
is_some-option_map f (Some x) = refl
