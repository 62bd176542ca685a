-- What is looked for block after block is looked for in all jobs.
use Rattle.std.proofs.Common.{◌≡◌, ◌∙◌, ℕ, ◌+◌, ◌<◌, ◌≤◌, Bool, false, ◌||◌, List, Option, None, Some, find, length, drop, sum_by, get_or, refl, ap, sym}
use Rattle.std.specs.Global.{Vec}
use Rattle.std.specs.List.{list_any}
use Rattle.std.specs.Option.{option_map, option_or}
use Rattle.std.proofs.lemmas.List.Folds.{find-append, list_any-append}
use Rattle.std.proofs.lemmas.List.Sums.{sum_by-append}
use Rattle.drmaa_model.specs.declared.rows.Row.{Row}
use Rattle.plan_book.specs.BlockWalks.{back-more, back-none}
use Rattle.plan_book.specs.Blocks.{rows_in}

module _ (test : Row → Bool) (blocks : List (Vec Row)) (i : ℕ) where
  pub any-more : (b : Vec Row) (rows : List Row) → i < length blocks → b ≡ get_or blocks i b → rows ≡ b.items → list_any test (rows_in (drop i blocks)) ≡ (list_any test rows || list_any test (rows_in (drop (i + 1) blocks)))
  any-more b rows within is same =
      ap (list_any test) (back-more blocks i b within is) ∙ list_any-append test b.items (rows_in (drop (i + 1) blocks)) ∙ ap (λ (xs : List Row). list_any test xs || list_any test (rows_in (drop (i + 1) blocks))) (sym same)

  pub any-none : length blocks ≤ i → list_any test (rows_in (drop i blocks)) ≡ false
  any-none all = ap (list_any test) (back-none blocks i all)

module _ (test : Row → Bool) (blocks : List (Vec Row)) (i : ℕ) where
  pub find-more : (b : Vec Row) (rows : List Row) → i < length blocks → b ≡ get_or blocks i b → rows ≡ b.items → find test (rows_in (drop i blocks)) ≡ option_or (find test rows) (find test (rows_in (drop (i + 1) blocks)))
  find-more b rows within is same =
      ap (find test) (back-more blocks i b within is) ∙ find-append test b.items (rows_in (drop (i + 1) blocks)) ∙ ap (λ (xs : List Row). option_or (find test xs) (find test (rows_in (drop (i + 1) blocks)))) (sym same)

  pub find-none : length blocks ≤ i → find test (rows_in (drop i blocks)) ≡ None
  find-none all = ap (find test) (back-none blocks i all)

-- nothing comes of nothing alone
pub map-none : {Y : Type 0} (f : Row → Y) (o : Option Row) → None ≡ option_map f o → o ≡ None
map-none f None none = refl
map-none f (Some row) none = absurd (cc)

map-first : {Y : Type 0} (f : Row → Y) (y : Y) (o rest : Option Row) → Some y ≡ option_map f o → Some y ≡ option_map f (option_or o rest)
map-first f y None rest is = absurd (cc)
map-first f y (Some row) rest is = is

-- it is in this block, or behind it
module _ (test : Row → Bool) (blocks : List (Vec Row)) (i : ℕ) (b : Vec Row) (rows : List Row) (within : i < length blocks) (at : b ≡ get_or blocks i b) (same : rows ≡ b.items) where
  pub find-behind : find test rows ≡ None → find test (rows_in (drop i blocks)) ≡ find test (rows_in (drop (i + 1) blocks))
  find-behind none = find-more test blocks i b rows within at same ∙ ap (λ (o : Option Row). option_or o (find test (rows_in (drop (i + 1) blocks)))) none

  pub find-here : (row : Row) → find test rows ≡ Some row → find test (rows_in (drop i blocks)) ≡ Some row
  find-here row found = find-more test blocks i b rows within at same ∙ ap (λ (o : Option Row). option_or o (find test (rows_in (drop (i + 1) blocks)))) found

  pub told-here : {Y : Type 0} (f : Row → Y) (y : Y) → Some y ≡ option_map f (find test rows) → Some y ≡ option_map f (find test (rows_in (drop i blocks)))
  told-here f y is = map-first f y (find test rows) (find test (rows_in (drop (i + 1) blocks))) is ∙ ap (option_map f) (sym (find-more test blocks i b rows within at same))

module _ (f : Row → ℕ) (blocks : List (Vec Row)) (i : ℕ) where
  pub sum-more : (b : Vec Row) (rows : List Row) → i < length blocks → b ≡ get_or blocks i b → rows ≡ b.items → sum_by f (rows_in (drop i blocks)) ≡ sum_by f rows + sum_by f (rows_in (drop (i + 1) blocks))
  sum-more b rows within is same =
      ap (sum_by f) (back-more blocks i b within is) ∙ sum_by-append f b.items (rows_in (drop (i + 1) blocks)) ∙ ap (λ (xs : List Row). sum_by f xs + sum_by f (rows_in (drop (i + 1) blocks))) (sym same)

  pub sum-none : length blocks ≤ i → sum_by f (rows_in (drop i blocks)) ≡ 0
  sum-none all = ap (sum_by f) (back-none blocks i all)
