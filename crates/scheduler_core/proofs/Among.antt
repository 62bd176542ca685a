-- What is looked for among the jobs that a call is for is looked for among all.
use Rattle.std.proofs.Common.{◌≡◌, Bool, false, cond, ◌||◌, List, [], ◌∷◌, ◌++◌, find, Some, refl, sym, ◌∙◌, ap}
use Rattle.std.specs.List.{AllByRecursion, list_any}
use Rattle.drmaa_model.specs.declared.calls.Target.{Target}
use Rattle.drmaa_model.specs.declared.rows.Row.{Row}
use Rattle.drmaa_model.specs.RowLaws.{all-implied}
use Rattle.drmaa_model.specs.Targets.{is_meant}
use Rattle.plan_book.specs.Meant.{NoneMeant, HasAllMeant}

module _ (test : Row → Bool) where
  abbrev Fails : List Row → Type 0
  Fails rows = AllByRecursion (λ (row : Row). test row ≡ false) rows

  pub find-behind : (front rows : List Row) → Fails front → find test (front ++ rows) ≡ find test rows
  find-behind [] rows none = refl
  find-behind (row ∷ front) rows none =
      ap (λ b. cond b (Some row) (find test (front ++ rows))) none.0 ∙ find-behind front rows none.1

  pub find-before : (rows behind : List Row) → Fails behind → find test (rows ++ behind) ≡ find test rows
  find-before [] [] none = refl
  find-before [] (row ∷ behind) none = ap (λ b. cond b (Some row) (find test behind)) none.0 ∙ find-before [] behind none.1
  find-before (row ∷ rows) behind none = ap (λ o. cond (test row) (Some row) o) (find-before rows behind none)

  any-behind : (front rows : List Row) → Fails front → list_any test (front ++ rows) ≡ list_any test rows
  any-behind [] rows none = refl
  any-behind (row ∷ front) rows none = ap (λ b. b || list_any test (front ++ rows)) none.0 ∙ any-behind front rows none.1

  any-before : (rows behind : List Row) → Fails behind → list_any test (rows ++ behind) ≡ list_any test rows
  any-before [] [] none = refl
  any-before [] (row ∷ behind) none = ap (λ b. b || list_any test behind) none.0 ∙ any-before [] behind none.1
  any-before (row ∷ rows) behind none = ap (λ b. test row || b) (any-before rows behind none)

  -- none meets the test but those that are meant
  pub any-among : (t : Target) → ((row : Row) → is_meant t row ≡ false → test row ≡ false) → (rows part : List Row) → HasAllMeant t rows part → list_any test part ≡ list_any test rows
  any-among t only rows part all =
      let outside : (rs : List Row) → NoneMeant t rs → Fails rs = λ rs none. all-implied (λ (row : Row). is_meant t row ≡ false) (λ (row : Row). test row ≡ false) only rs none in
      sym (ap (list_any test) all.parts ∙ any-behind all.before (part ++ all.behind) (outside all.before all.none_before) ∙ any-before part all.behind (outside all.behind all.none_behind))

pub found-among : (t : Target) (rows part : List Row) → HasAllMeant t rows part → find (is_meant t) part ≡ find (is_meant t) rows
found-among t rows part all =
    sym (ap (find (is_meant t)) all.parts ∙ find-behind (is_meant t) all.before (part ++ all.behind) all.none_before ∙ find-before (is_meant t) part all.behind all.none_behind)
